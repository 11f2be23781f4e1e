pub mod StopEarly
