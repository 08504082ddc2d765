mod Shown
mod Places
