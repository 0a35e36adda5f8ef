-- The program's float constants, by their bit patterns.
-- Assumes nothing.
use Rattle.std.specs.Prelude.{from_bits, Float}
use Rattle.std.specs.Float.{binary32}

-- 0.5
abbrev pub half : Float
half = from_bits binary32 0x3F00_0000

-- 1
abbrev pub one : Float
one = from_bits binary32 0x3F80_0000

-- 2 ^ -20
abbrev pub min_scale : Float
min_scale = from_bits binary32 0x3580_0000

-- 2 ^ 20
abbrev pub max_scale : Float
max_scale = from_bits binary32 0x4980_0000
