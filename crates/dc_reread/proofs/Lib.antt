mod Found
mod Handed
mod Owned
