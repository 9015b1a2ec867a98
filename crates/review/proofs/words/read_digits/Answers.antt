-- What is left to read says the same as the whole.
use mathlib.Core.Path.{◌∙◌, refl}
use native.Mathlib.Omega.{arith}
use Rattle.std.proofs.lemmas.Grind.{common_steps}
use Rattle.review.proofs.WordsLaws.{said_nothing, reading_start, no_digit, too_large, reading_on, reading_end}
use Rattle.review.proofs.words.read_digits.Goals as goal

pub returns-then-is_empty : goal.returns-then-is_empty
returns-then-is_empty c = said_nothing _ (grind (arith, common_steps))

pub loop-byte-init : goal.loop-byte-init
loop-byte-init c = reading_start _ (grind (arith, common_steps))

pub returns-then-not-is_ascii_digit : goal.returns-then-not-is_ascii_digit
returns-then-not-is_ascii_digit c = no_digit _ _ _ c.loop-byte.invariant c.loop-byte-test.true _ refl c.if-not-is_ascii_digit.ensures.cases

pub returns-in_err-checked_mul : goal.returns-in_err-checked_mul
returns-in_err-checked_mul c =
    c.from_residual.ensures ∙ too_large _ _ _ c.loop-byte.invariant c.loop-byte-test.true _ refl c.if-not-is_ascii_digit.ensures.cases.0 c.if-not-is_ascii_digit.ensures.cases.1 (omega (arith, c.in_err-checked_mul.ensures))

pub returns-in_err-value : goal.returns-in_err-value
returns-in_err-value c =
    c.from_residual-in_err-value.ensures ∙ too_large _ _ _ c.loop-byte.invariant c.loop-byte-test.true _ refl c.if-not-is_ascii_digit.ensures.cases.0 c.if-not-is_ascii_digit.ensures.cases.1 (omega (arith, c.in_err-value.ensures, c.in_ok-checked_mul.ensures))

pub loop-byte-preserved : goal.loop-byte-preserved
loop-byte-preserved c =
    reading_on _ _ _ c.loop-byte.invariant c.loop-byte-test.true _ refl c.if-not-is_ascii_digit.ensures.cases.0 c.if-not-is_ascii_digit.ensures.cases.1 _ (omega (arith, c.in_ok-value.ensures, c.in_ok-checked_mul.ensures)) (omega (arith, c.in_ok-value.ensures))

pub returns : goal.returns
returns c = reading_end _ _ _ c.loop-byte.invariant c.loop-byte-test.false
