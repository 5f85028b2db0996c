-- That numbers which fit may be cast (`Fits`), arrays made by a closure (`FromFn`), and what `all` tells (`All`).
mod Fits
mod FromFn
mod All
