mod Colons
mod Fitting
mod Lending
mod Putting
mod Taking
mod Telling
