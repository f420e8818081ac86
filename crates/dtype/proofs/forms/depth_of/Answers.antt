use Rattle.std.proofs.Common.{sym, ◌∙◌, arith}
use Rattle.dtype.proofs.Digits.{depth_goes, digit_none, digit_all}
use Rattle.dtype.proofs.forms.depth_of.Goals as goal
use Rattle.dtype.proofs.forms.depth_of.Goals.{in_default, in_default-2}

pub returns-then-not-is_ascii_digit : goal.returns-then-not-is_ascii_digit
returns-then-not-is_ascii_digit c =
    sym (digit_none c.loop-digit.depth c.args.digits.now c.loop-digit.digit-index c.loop-digit-test.true (sym c.if-not-is_ascii_digit.ensures.value))
    ∙ sym c.loop-digit.invariant.2
    ∙ elim c.if-digits-lt2.branch [ in_default w ↦ depth_goes c.args.digits.now (omega arith) (λ z. omega arith) | in_default-2 w ↦ depth_goes c.args.digits.now (omega arith) (λ z. omega arith) ]

pub returns : goal.returns
returns c =
    sym (digit_all c.loop-digit.depth c.args.digits.now c.loop-digit.digit-index c.loop-digit-test.false)
    ∙ sym c.loop-digit.invariant.2
    ∙ elim c.if-digits-lt2.branch [ in_default w ↦ depth_goes c.args.digits.now (omega arith) (λ z. omega arith) | in_default-2 w ↦ depth_goes c.args.digits.now (omega arith) (λ z. omega arith) ]
