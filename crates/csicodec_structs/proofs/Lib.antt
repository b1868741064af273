pub mod Fronts
mod Kept
pub mod Laid
mod ModeNumbers
mod Moved
pub mod OneAction
mod OneValue
mod Running
mod ShortLaid
mod Stand
mod Styled
pub mod Tokens
