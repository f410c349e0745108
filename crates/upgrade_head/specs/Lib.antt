pub mod Field
pub mod Head
pub mod Judged
pub mod Key
pub mod Texts
pub mod View
pub mod Word
pub mod All
