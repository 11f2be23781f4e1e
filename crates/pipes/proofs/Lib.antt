-- Lemmas of `pipes`.
mod Parts
