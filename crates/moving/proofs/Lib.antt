-- What the calls answer and leave, where there is room for every list that passes.
pub mod Results
