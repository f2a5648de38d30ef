mod Copies
mod Places
mod Reading
mod Writing
