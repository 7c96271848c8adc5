mod Cells
mod Descent
mod Marks
