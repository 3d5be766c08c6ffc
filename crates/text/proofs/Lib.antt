-- laws of the definitions of specs/
pub mod HexLaws
pub mod PowerLaws
pub mod DecimalLaws
pub mod WordLaws
pub mod ScanLaws
pub mod ListLaws
