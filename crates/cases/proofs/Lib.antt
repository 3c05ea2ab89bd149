mod Places
mod Rounds
mod Pinned
