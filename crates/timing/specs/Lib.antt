pub mod OnTime
