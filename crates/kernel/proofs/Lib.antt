mod Requests
mod Pinned
