use Rattle.std.proofs.Common.{refl, sym}
use Rattle.ss_base.proofs.Texts.{placed-room, placed-value}
use Rattle.ss_base.proofs.alpha.Alpha.of.Goals as goal

-- the text lies in its room with zeros after it
pub invariant_of-result : goal.invariant_of-result
invariant_of-result c =
    (placed-room c.args.bytes.now _ _ (sym c.if-not-are_printable.ensures) c.trimmed-text.ensures c.if-text-gt-TEXT_LIMIT.false c.copy_from_slice.ensures.after, refl)

pub returns : goal.returns
returns c =
    placed-value c.args.bytes.now _ _ (sym c.if-not-are_printable.ensures) c.trimmed-text.ensures c.if-text-gt-TEXT_LIMIT.false c.copy_from_slice.ensures.after
