mod Marks
mod Ruled
mod Taken
mod Happening
mod Left
