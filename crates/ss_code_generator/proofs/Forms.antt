-- What an instruction carries out that is chosen by operator, mode, relation, ordering or end.
use Rattle.std.proofs.Common.{◌≡◌, ℕ, Bool, List, refl}
use Rattle.ss_code_generator.proofs.Common.{Address, asking_member, asking_set, calculating, comparing, End, fetching, filing_instruction, filing_of, MemberQuery, Mode, moving, OfAttribute, OfCount, Ordering, Placed, reading, Relation, removing, SetQuery, storing, Value}
use Rattle.ss_code_instructions.specs.Carried.{IsCarriedOut, HasOperand, HasBearer, HasTarget, Is, IsCalculating, IsMovingValue, IsComparing, IsReadingAttribute, IsSettingAttribute, IsNotedIfWatched, IsUnwatched, IsFilingMember}
use Rattle.ss_base.specs.declared.layout.Mode.TheVariants as modes
use Rattle.ss_base.specs.declared.words.Operator.{Operator}
use Rattle.ss_base.specs.declared.words.Operator.TheVariants as operators
use Rattle.ss_program.specs.declared.expression.SetQuery.TheVariants as set_queries
use Rattle.ss_program.specs.declared.expression.MemberQuery.TheVariants as member_queries
use Rattle.ss_base.specs.declared.words.Relation.TheVariants as relations
use Rattle.ss_base.specs.declared.words.End.TheVariants as ends
use Rattle.ss_code_instructions.specs.Instructions as i
use Rattle.ss_code_instructions.specs.Machine.{Code}
use Rattle.ss_code_pieces.specs.declared.facts.Ordering.TheVariants as orderings

module _ (code : Code) (constants : List Value) (x : Placed) where
  pub calculates : (op : Operator) (left right to : Address) → IsCalculating code constants x op left right to → IsCarriedOut code constants x (calculating op left right to)
  calculates operators.Add left right to h = h
  calculates _ left right to h = h

  pub asks_set : (q : SetQuery) (set : ℕ) (owner to : Address) → HasBearer code constants x owner (λ o. HasTarget code constants x to (λ t. Is code constants x (i.OfSet q set o t))) → IsCarriedOut code constants x (asking_set q set owner to)
  asks_set set_queries.FirstMember set owner to h = h
  asks_set _ set owner to h = h

  pub asks_member : (q : MemberQuery) (set : ℕ) (member to : Address) → HasOperand code constants x member (λ y. HasTarget code constants x to (λ t. Is code constants x (i.OfMember q set y t))) → IsCarriedOut code constants x (asking_member q set member to)
  asks_member member_queries.Predecessor set member to h = h
  asks_member _ set member to h = h

  pub moves : (m : Mode) (from to : Address) → IsMovingValue code constants x m from to → IsCarriedOut code constants x (moving m from to)
  moves modes.Integer from to h = h
  moves modes.Alpha from to h = h

  pub fetches : (m : Mode) (class field : ℕ) (entity to : Address) → IsReadingAttribute code constants x m class field entity to → IsCarriedOut code constants x (fetching m class field entity to)
  fetches modes.Integer class field entity to h = h
  fetches modes.Alpha class field entity to h = h

  pub stores : (m : Mode) (class field : ℕ) (entity from : Address) (noted : Bool) → IsNotedIfWatched code constants x noted (OfAttribute class field) → (m ≡ modes.Alpha → IsUnwatched code constants x (OfAttribute class field)) → IsSettingAttribute code constants x m class field entity from → IsCarriedOut code constants x (storing m class field entity from noted)
  stores modes.Integer class field entity from noted n u h = (n, h)
  stores modes.Alpha class field entity from noted n u h = (u refl, h)

  pub reads_word : (m : Mode) (to : Address) → HasTarget code constants x to (λ t. Is code constants x (i.Read m t)) → IsCarriedOut code constants x (reading m to)
  reads_word modes.Integer to h = h
  reads_word modes.Alpha to h = h

  pub compares : (m : Mode) (relation : Relation) (left right : Address) (skip : ℕ) → IsComparing code constants x m relation left right skip → IsCarriedOut code constants x (comparing m relation left right skip)
  compares modes.Alpha relation left right skip h = h
  compares modes.Integer relations.Equal left right skip h = h
  compares modes.Integer _ left right skip h = h

  pub files : (o : Ordering) (set : ℕ) (member owner : Address) (noted : Bool) → IsNotedIfWatched code constants x noted (OfCount set) → IsFilingMember code constants x (filing_of o) set member owner → IsCarriedOut code constants x (filing_instruction o set member owner noted)
  files orderings.First set member owner noted n h = (n, h)
  files _ set member owner noted n h = (n, h)

  pub removes : (e : End) (set : ℕ) (owner to : Address) (noted : Bool) → IsNotedIfWatched code constants x noted (OfCount set) → HasBearer code constants x owner (λ o. HasTarget code constants x to (λ t. Is code constants x (i.RemoveEnd e set o t))) → IsCarriedOut code constants x (removing e set owner to noted)
  removes ends.First set owner to noted n h = (n, h)
  removes ends.Last set owner to noted n h = (n, h)
