-- Expressions and conditions: their value or truth in a store, from left to right.
use Rattle.std.specs.Prelude.{ℕ, Bool, true, false, List, [], ◌∷◌, not, ℤ, Option, Some, None, Result, Ok}
use Rattle.ss_base.specs.declared.value.Value.{Value}
use Rattle.ss_input.specs.Words.{is_ended}
use Rattle.ss_base.specs.declared.words.GuardKind.{GuardKind}
use Rattle.ss_base.specs.declared.words.GuardKind.TheVariants.{While, Until}
use Rattle.ss_program.specs.Program.{Expression, Constant, Fetch, Attribute, OfSystemSet, OfSet, OfMember, Clock, TimeOf, Figure, FigureOf, Signed, Unary, Calculate, SetOwner, TheSystem, Entity, Test, Compare, DataEnded, Empty, Member, Condition, Guard, Place, ToVariable, ToAttribute, ToCount, Position, ByDiscipline, AsFirst, AsLast, BeforeMember, AfterMember, When, At, In, Now, PrintItem, AValue, AMean, AMeanOf}
use Rattle.ss_picture.specs.declared.items.Item.{Item}
use Rattle.ss_picture.specs.declared.items.Item.TheVariants.{Is, Mean}
use Rattle.ss_meaning.specs.Values.{Failure, if_ok, turned, due, sure, calculated, signed, applied, related}
use Rattle.ss_meaning.specs.Store.{Store, fetched}
use Rattle.ss_meaning.specs.Entities.{entity, attribute, time_of}
use Rattle.ss_meaning.specs.Places.{Spot, InVariable, InAttribute, InCount}
use Rattle.ss_meaning.specs.Sets.{member, known_owner, of_set, of_member, is_empty, is_in, Filing, ByRule, Foremost, Hindmost, JustBefore, JustAfter}
use Rattle.ss_meaning.specs.Events.{clock, time_at, AtTime, Later, AtOnce}
use Rattle.ss_meaning.specs.Statistics.{figure, mean}

-- ## Expressions

-- the value of an expression
abbrev pub value : Expression → Store → Result Value Failure
value (Constant v) s = Ok v
value (Fetch x) s = sure (fetched x s)
value (Attribute class field e) s = if_ok (value e s) (λ x. attribute class field x s)
value (OfSystemSet query set) s = of_set query set None s
value (OfSet query set e) s = if_ok (value e s) (λ o. of_set query set (Some o) s)
value (OfMember query set e) s = if_ok (value e s) (λ x. of_member query set x s)
value Clock s = Ok (clock s)
value (TimeOf e) s = if_ok (value e s) (λ x. time_of x s)
value (Figure fold j) s = figure fold j None s
value (FigureOf fold j e) s = if_ok (value e s) (λ x. figure fold j (Some x) s)
value (Signed sign e) s = if_ok (value e s) (signed sign)
value (Unary op e) s = if_ok (value e s) (applied op)
value (Calculate op a b) s = if_ok (value a s) (λ x. if_ok (value b s) (λ y. calculated op x y))

-- several values, from left to right
abbrev pub values : List Expression → Store → Result (List Value) Failure
values [] s = Ok []
values (e ∷ es) s = if_ok (value e s) (λ v. turned (λ vs. v ∷ vs) (values es s))

-- ## Items of PRINT

-- a sum and a number as an item
abbrev pub mean_shown : Result (ℤ × ℤ) Failure → Result Item Failure
mean_shown r = turned (λ m. Mean m.0 m.1) r

-- what an item shows
abbrev pub shown_item : PrintItem → Store → Result Item Failure
shown_item (AValue e) s = turned Is (value e s)
shown_item (AMean j) s = mean_shown (mean j None s)
shown_item (AMeanOf j e) s = if_ok (value e s) (λ x. mean_shown (mean j (Some x) s))

-- several items, from left to right
abbrev pub shown_items : List PrintItem → Store → Result (List Item) Failure
shown_items [] s = Ok []
shown_items (i ∷ is) s = if_ok (shown_item i s) (λ x. turned (λ xs. x ∷ xs) (shown_items is s))

abbrev pub value_if_any : Option Expression → Store → Result (Option Value) Failure
value_if_any None s = Ok None
value_if_any (Some e) s = turned Some (value e s)

-- ## References, each looked at where it is written

abbrev pub looked_at : (Value → Result ℤ Failure) → Value → Result Value Failure
looked_at known x = turned (λ n. x) (known x)

-- a reference to an entity of a class, and to one that may be a member of a set
abbrev pub entity_value : (class : ℕ) → Expression → Store → Result Value Failure
entity_value class e s = if_ok (value e s) (looked_at (λ x. entity class x s))

abbrev pub member_value : (set : ℕ) → Expression → Store → Result Value Failure
member_value set e s = if_ok (value e s) (looked_at (λ x. member set x s))

-- whose set it is: an entity's, or the system's
abbrev pub owner_value : SetOwner → Store → Result (Option Value) Failure
owner_value TheSystem s = Ok None
owner_value (Entity e) s = turned Some (value e s)

-- whose set it is, where the owner must be there: an entity that isn't is a fault
abbrev pub owner_looked_at : (set : ℕ) → SetOwner → Store → Result (Option Value) Failure
owner_looked_at set owner s = if_ok (owner_value owner s) (λ o. turned (λ n. o) (known_owner set o s))

-- what is assigned
abbrev pub spot : Place → Store → Result Spot Failure
spot (ToVariable x) s = Ok (InVariable x)
spot (ToAttribute class field e) s = turned (InAttribute class field) (entity_value class e s)
spot (ToCount c) s = Ok (InCount c)

-- where a member is filed
abbrev pub filing : (set : ℕ) → Position → Store → Result Filing Failure
filing set ByDiscipline s = Ok ByRule
filing set AsFirst s = Ok Foremost
filing set AsLast s = Ok Hindmost
filing set (BeforeMember e) s = turned JustBefore (member_value set e s)
filing set (AfterMember e) s = turned JustAfter (member_value set e s)

-- the time for which a notice is scheduled
abbrev pub time_value : When → Store → Result ℤ Failure
time_value (At e) s = if_ok (value e s) (λ v. time_at (AtTime v) s)
time_value (In e) s = if_ok (value e s) (λ v. time_at (Later v) s)
time_value Now s = time_at AtOnce s

-- ## Conditions

abbrev pub not_if : (negated : Bool) → Bool → Bool
not_if true b = not b
not_if false b = b

-- whether a test holds
abbrev pub passed : Test → Store → Result Bool Failure
passed (Compare relation a b) s = if_ok (value a s) (λ x. if_ok (value b s) (λ y. sure (related relation x y)))
passed (DataEnded negated) s = turned (not_if negated) (due (is_ended s.world.input))
passed (Empty negated set owner) s = if_ok (owner_value owner s) (λ o. turned (not_if negated) (is_empty set o s))
passed (Member negated set e owner) s =
    if_ok (member_value set e s) (λ x. if_ok (owner_value owner s) (λ o. turned (not_if negated) (is_in set x o s)))

-- a second condition where the first holds, and where it does not
abbrev pub both : Bool → Result Bool Failure → Result Bool Failure
both true second = second
both false second = Ok false

abbrev pub either : Bool → Result Bool Failure → Result Bool Failure
either true second = Ok true
either false second = second

-- whether all tests hold: up to the first that does not
abbrev pub all_hold : List Test → Store → Result Bool Failure
all_hold [] s = Ok true
all_hold (t ∷ ts) s = if_ok (passed t s) (λ b. both b (all_hold ts s))

-- whether a condition holds, which is one of its alternatives: up to the first that holds
abbrev pub holds : Condition → Store → Result Bool Failure
holds [] s = Ok false
holds (ts ∷ others) s = if_ok (all_hold ts s) (λ b. either b (holds others s))

-- whether a loop goes on at a condition
abbrev pub passes : GuardKind → Bool → Bool
passes While b = b
passes Until b = not b

-- whether a loop goes on at all of several conditions: up to the first at which it does not
abbrev pub all_pass : List Guard → Store → Result Bool Failure
all_pass [] s = Ok true
all_pass (g ∷ gs) s = if_ok (holds g.condition s) (λ b. both (passes g.kind b) (all_pass gs s))
