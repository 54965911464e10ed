pub mod CutLine
