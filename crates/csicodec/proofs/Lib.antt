mod Escapes
mod Rewritten
mod Taken
