pub mod ShortTexts
pub mod ShortLaws
pub mod ByUse
pub mod ByUseLaws
