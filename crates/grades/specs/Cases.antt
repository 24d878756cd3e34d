-- The cases of document 01's "Proved cases" that arithmetic decides. They are one part of the joint statement P1 to P13.
-- Assumes nothing.
use Rattle.std.specs.Prelude.{◌≡◌, refl}
use Rattle.grades.specs.Grades.{mover, atomic, cmpd, error, cap, composition, compose, closure, assert_atomic}

pub record ArithmeticCases : Type 0 where
  pub P1 : compose atomic atomic ≡ cmpd
  pub P2 : compose mover atomic ≡ atomic
  pub P3 : closure atomic ≡ cmpd
  pub P4 : closure mover ≡ mover
  pub P9 : assert_atomic cmpd ≡ error

pub arithmetic-cases : ArithmeticCases
unfolding compose composition cap closure assert_atomic
arithmetic-cases = record { P1 = refl; P2 = refl; P3 = refl; P4 = refl; P9 = refl }
