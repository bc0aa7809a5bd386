-- 02, 6/13: the table of type codes, and the steps by which a type is widened (the Apache Iceberg table specification, Schema
-- Evolution), by the format version that a request names.
use Rattle.std.specs.Prelude.{ℕ, ◌-◌, ◌/◌, ◌%◌, Bool, ◌&&◌, ◌||◌, List, [], ◌∷◌, eqb, leb, ltb}
use Rattle.paper.specs.Answer.{any}

-- ---- versions

-- What 25 asks: a request names version 2 or 3.
unfoldable pub known_version : (version : ℕ) → Bool
known_version version = eqb version 2 || eqb version 3

-- ---- type codes

-- 1 boolean, 2 int, 3 long, 4 date, 5 float, 6 double, 7 timestamp, 8 timestamp_ns, 9 string.
abbrev pub int : ℕ
int = 2

abbrev pub long : ℕ
long = 3

abbrev pub date : ℕ
date = 4

abbrev pub float : ℕ
float = 5

abbrev pub double : ℕ
double = 6

abbrev pub timestamp : ℕ
timestamp = 7

abbrev pub timestamp_ns : ℕ
timestamp_ns = 8

-- A decimal is 65,536 + 256 x precision + scale, with precision 1 to 38 and scale 0 to precision.
abbrev pub precision : (code : ℕ) → ℕ
precision code = code / 256 - 256

abbrev pub scale : (code : ℕ) → ℕ
scale code = code % 256

unfoldable pub is_decimal : (code : ℕ) → Bool
is_decimal code = leb 1 (precision code) && (leb (precision code) 38 && leb (scale code) (precision code))

-- The codes of the table.
unfoldable pub known_code : (code : ℕ) → Bool
known_code code = (leb 1 code && leb code 9) || is_decimal code

-- ---- steps

-- A step of a version, from one code to another.
pub record Step : Type 0 where
  pub version : ℕ
  pub old : ℕ
  pub new : ℕ

abbrev pub step : (version old new : ℕ) → Step
step version old new = record { version = version; old = old; new = new }

-- Version 2: int to long, float to double. Version 3 adds date to timestamp and to timestamp_ns.
abbrev pub promotions : List Step
promotions =
    step 2 int long ∷ step 2 float double
    ∷ step 3 int long ∷ step 3 float double ∷ step 3 date timestamp ∷ step 3 date timestamp_ns ∷ []

abbrev pub is_step : (version old new : ℕ) → Step → Bool
is_step version old new s = eqb s.version version && (eqb s.old old && eqb s.new new)

-- In each version: a decimal to a higher precision, with equal scale.
unfoldable pub more_digits : (old new : ℕ) → Bool
more_digits old new =
    is_decimal old && (is_decimal new && (ltb (precision old) (precision new) && eqb (scale old) (scale new)))

unfoldable pub allowed : (version old new : ℕ) → Bool
allowed version old new = any (is_step version old new) promotions || more_digits old new
