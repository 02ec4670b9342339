-- The class of an entity that is known by its creation number.
use Rattle.std.proofs.Common.{◌≡◌, ℕ, ◌<◌, length, Ok, inl, ap, subst, ◌∙◌}
use Rattle.ss_records_entities.proofs.Common.{BlockPlace, class_at_place, IsKept, IsPermanent, number, numbered_place, places, plain, record_of, Records, state, word_at, words_at, ℤ}
use Rattle.ss_world.specs.State.{kind_of}
use Rattle.ss_records_entities.specs.Classed.{HasClass}
use Rattle.ss_records_entities.proofs.Keeps.{read_place, numbered_is, there}

-- the class is the one that the block at the place of the number says
pub class_there : (r : Records) (K : IsKept r) (x : ℤ) (p : BlockPlace) (c : ℕ) → numbered_place r.directory.places x ≡ Ok p → word_at r.blocks.cells p.at 0 ≡ number c → HasClass (state r) x c
class_there r K x p c h w =
    let t = there r.directory.places x p h in
    let is : class_at_place r.blocks.cells p ≡ c = ap plain w in
    record {
      seen = record_of r.layout (words_at r.blocks.cells p.at);
      found = numbered_is r.layout r.blocks.cells (places r) r.notes.lists x ∙ ap (read_place r.layout r.blocks.cells) h;
      class = is;
      inside = subst (λ n. n < length r.layout.classes) is (K.classes t.0 p (inl t.2));
      kind = subst (λ n. IsPermanent (kind_of r.layout n) → ⊥) is (K.kinds t.0 p t.2);
    }
