mod CutRows
mod Cuts
mod Rows
