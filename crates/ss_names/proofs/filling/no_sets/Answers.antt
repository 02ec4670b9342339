use Rattle.std.proofs.Common.{refl, ◌∙◌}
use Rattle.std.proofs.lemmas.Result.{IfOk-weaker}
use Rattle.std.proofs.lemmas.Simd.{splat_is_map}
use Rattle.ss_names.specs.Filling.{no_set}
use Rattle.ss_names.proofs.filling.no_sets.Goals as goal

pub returns : goal.returns
returns c =
    IfOk-weaker c.from_elem.result _ _ (λ sets made. made (λ y same. same) ∙ splat_is_map c.args.names.now _ no_set refl)
    c.from_elem.ensures.items_if_clones_equal
