mod Types
mod Steps
mod Places
mod Whole
