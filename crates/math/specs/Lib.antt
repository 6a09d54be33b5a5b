-- The helpers of math.rs, and below them whole numbers, the remainder by 360, the folds of
-- directions and times.
pub mod Cast
pub mod Clock
pub mod Convert
pub mod Fold
pub mod Remainder
pub mod Rounded
pub mod Sign
pub mod Test
pub mod Whole
