-- laws of the definitions of specs/
pub mod ChainLaws
pub mod FeedLaws
pub mod PaddingLaws
pub mod PartsLaws
