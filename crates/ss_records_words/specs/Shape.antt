-- Where the words of a block are: class, number, two for each value, the time of a notice, then three words
-- for each set that the class may join, then three for each set that it owns.
use Rattle.std.specs.Prelude.{ℕ, zero, suc, ◌+◌, ◌*◌, Bool, ◌==◌, cond, List, [], ◌∷◌, length}
use Rattle.ss_base.specs.Layout.{same_owner}
use Rattle.ss_base.specs.declared.layout.Owner.{Owner}
use Rattle.ss_base.specs.declared.layout.Owner.TheVariants.{System, Class}
use Rattle.ss_base.specs.declared.layout.SetLayout.{SetLayout}
use Rattle.ss_base.specs.declared.layout.Layout.{Layout}
use Rattle.ss_world.specs.State.{kind_of, modes_of, is_notice}

-- where the values end
abbrev pub values_end : Layout → ℕ → ℕ
values_end l c = 2 + 2 * length (modes_of l c)

-- where the links begin
abbrev pub links_start : Layout → ℕ → ℕ
links_start l c = values_end l c + cond (is_notice (kind_of l c)) 1 0

abbrev pub joins : ℕ → SetLayout → Bool
joins c t = t.member == c

abbrev pub owned_by : Owner → SetLayout → Bool
owned_by o t = same_owner t.owner o

-- how many of the first s sets pass a test
abbrev pub count_before : (SetLayout → Bool) → List SetLayout → ℕ → ℕ
count_before p [] s = 0
count_before p (t ∷ ts) zero = 0
count_before p (t ∷ ts) (suc s) = cond (p t) 1 0 + count_before p ts s

abbrev pub count_sets : (SetLayout → Bool) → List SetLayout → ℕ
count_sets p [] = 0
count_sets p (t ∷ ts) = cond (p t) 1 0 + count_sets p ts

-- where the words of owned sets begin
abbrev pub owned_start : Layout → Owner → ℕ
owned_start l System = 2
owned_start l (Class c) = links_start l c + 3 * count_sets (joins c) l.sets

-- how many words the block of an entity of a class has, or that of the system
abbrev pub block_words : Layout → Owner → ℕ
block_words l o = owned_start l o + 3 * count_sets (owned_by o) l.sets

-- how many sets have three words in such a block: those that the system owns; those that an entity of the class may join, and those that it owns
abbrev pub set_places : Layout → Owner → ℕ
set_places l System = count_sets (owned_by System) l.sets
set_places l (Class c) = count_sets (joins c) l.sets + count_sets (owned_by (Class c)) l.sets
