-- Parts of the private functions' contracts. No promise rests on these files.
pub mod Changes
pub mod Reads
