mod Calls
mod Told
mod Unknown
