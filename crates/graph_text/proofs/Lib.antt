pub mod NodeLines
