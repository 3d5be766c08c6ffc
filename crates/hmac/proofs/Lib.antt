-- laws of the definitions of specs/
pub mod HmacLaws
pub mod KeyLaws
pub mod MacLaws
