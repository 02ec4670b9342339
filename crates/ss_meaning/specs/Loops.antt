-- Loops: the candidates of a FOR, their phrases, and loops led by WHILE or UNTIL.
use Rattle.std.specs.Prelude.{ℕ, zero, suc, ◌-◌, ◌^◌, Bool, true, false, List, [], ◌∷◌, ℤ, pos, ◌+ℤ◌, int_le, int_lt, Option, Some, None, Result, Ok, if◌then◌else◌}
use Rattle.std.specs.Int.{int_min}
use Rattle.ss_base.specs.declared.line.Line.{Line}
use Rattle.ss_base.specs.declared.fault.FaultKind.TheVariants.{LoopStep}
use Rattle.ss_base.specs.declared.value.Value.{Value}
use Rattle.ss_base.specs.declared.value.Value.TheVariants.{Whole}
use Rattle.ss_program.specs.declared.expression.Variable.{Variable}
use Rattle.ss_base.specs.declared.words.PhraseKind.{PhraseKind}
use Rattle.ss_base.specs.declared.words.PhraseKind.TheVariants as kinds
use Rattle.ss_program.specs.Program.{Expression, SetOwner, Head, Numbers, Members, Each, Start, AtEnd, From, After, Phrase, Guard}
use Rattle.ss_meaning.specs.Values.{Failure, if_ok, turned, where_fit, unless_fault, number_of}
use Rattle.ss_meaning.specs.Store.{Store}
use Rattle.ss_meaning.specs.Entities.{class_at, is_permanent, made_count}
use Rattle.ss_meaning.specs.Places.{InVariable}
use Rattle.ss_meaning.specs.Sets.{is_none, begun, begun_at, coming, goes_on}
use Rattle.ss_meaning.specs.Expressions.{value, value_if_any, member_value, owner_value, owner_looked_at, holds, all_pass}
use Rattle.ss_meaning.specs.Parts.{Part, WentOn, outcome_then, choose, look, write, take_tick, Next, Again, Over, loop}

-- ## Phrases

-- what follows a turn of a FOR: the next candidate, the end of the loop, or the case that is looked for
pub data Turn : Type 0 where
  GoesOn : Turn
  EndsLoop : Turn
  IsFound : Turn

-- what a phrase makes of a candidate by its condition: what follows, the next candidate, or the end of the loop
abbrev pub phrase : PhraseKind → Bool → Part Turn → Part Turn
phrase kinds.With b more = choose b more (WentOn GoesOn)
phrase kinds.Unless b more = choose b (WentOn GoesOn) more
phrase kinds.While b more = choose b more (WentOn EndsLoop)
phrase kinds.Until b more = choose b (WentOn EndsLoop) more

-- the phrases in the order in which they are written, and then what the loop does
abbrev pub phrases : Line → List Phrase → Part Turn → Part Turn
phrases l [] turn w = turn w
phrases l (p ∷ ps) turn w = outcome_then (look l (holds p.condition) w) (λ b. phrase p.kind b (phrases l ps turn))

-- a candidate is assigned to the variable of the loop, and then comes its turn
abbrev pub visit : Line → Variable → Part Turn → ℤ → Part Turn
visit l x turn v w = outcome_then (write l (InVariable x) (Whole v) w) (λ _. turn)

-- ## FOR over numbers, and over the entities of a permanent class: whether the case was found

-- the greatest number
abbrev pub greatest : ℤ
greatest = pos (2 ^ 63 - 1)

-- the first number, the limit, and the step
pub record Range : Type 0 where
  pub first : ℤ
  pub limit : ℤ
  pub step : ℤ

-- the items: the first number, each next one by the step more, up to the limit and up to the greatest number; the first so many of them
abbrev pub items_from : (count : ℕ) → (limit step : ℤ) → (item : ℤ) → List ℤ
items_from zero limit step item = []
items_from (suc k) limit step item =
    if int_le item limit then item ∷ items_from k limit step (item +ℤ step) else []

abbrev pub range_items : (count : ℕ) → Range → List ℤ
range_items count r = items_from count (int_min r.limit greatest) r.step r.first

-- what follows a turn: the later candidates, or the end of the loop
abbrev pub after_turn : Turn → Part Bool → Part Bool
after_turn GoesOn later = later
after_turn EndsLoop later = WentOn false
after_turn IsFound later = WentOn true

-- the candidates of a list in turn, a tick for each
abbrev pub over_items : (go : ℤ → Part Turn) → List ℤ → Part Bool
over_items go [] w = WentOn false w
over_items go (i ∷ is) w = take_tick (λ w. outcome_then (go i w) (λ t. after_turn t (over_items go is))) w

abbrev pub step_number : Option Value → Result ℤ Failure
step_number None = Ok (pos 1)
step_number (Some v) = number_of v

-- the numbers that values say; a step below 1 is the fault LOOP STEP
abbrev pub range_of : (first limit : Value) → (step : Option Value) → Result Range Failure
range_of a b c =
    if_ok (number_of a) (λ x. if_ok (number_of b) (λ y. if_ok (step_number c) (λ z.
    unless_fault (int_lt z (pos 1)) LoopStep (Ok (record { first = x; limit = y; step = z })))))

abbrev pub range : (first limit : Expression) → (step : Option Expression) → Store → Result Range Failure
range a b c s = if_ok (value a s) (λ x. if_ok (value b s) (λ y. if_ok (value_if_any c s) (λ z. range_of x y z)))

-- the indices of the entities of a permanent class
abbrev pub indices : (class : ℕ) → Store → Result Range Failure
indices class s = where_fit (is_permanent (class_at class s)) (Ok (record { first = pos 1; limit = pos (made_count class s); step = pos 1 }))

-- ## FOR over the members of a set

-- the member that comes first, and whose set it is
pub record Outset : Type 0 where
  pub first : ℤ
  pub owner : Option Value

abbrev pub from_member : (after reverse : Bool) → (set : ℕ) → SetOwner → Expression → Store → Result Outset Failure
from_member after reverse set owner e s =
    if_ok (owner_looked_at set owner s) (λ o. if_ok (member_value set e s) (λ y.
    turned (λ x. record { first = x; owner = o }) (begun_at reverse after set y o s)))

abbrev pub loop_outset : Start → (reverse : Bool) → (set : ℕ) → SetOwner → Store → Result Outset Failure
loop_outset AtEnd reverse set owner s =
    if_ok (owner_value owner s) (λ o. turned (λ x. record { first = x; owner = o }) (begun reverse set o s))
loop_outset (From e) reverse set owner s = from_member false reverse set owner e s
loop_outset (After e) reverse set owner s = from_member true reverse set owner e s

-- the next member, which was fixed before
abbrev pub next_member : Line → (set : ℕ) → Option Value → (next : ℤ) → Turn → Part (Next ℤ Bool)
next_member l set o x GoesOn w = outcome_then (look l (goes_on set x o) w) (λ b. choose b (WentOn (Again x)) (WentOn (Over false)))
next_member l set o x EndsLoop w = WentOn (Over false) w
next_member l set o x IsFound w = WentOn (Over true) w

-- the turn of a member: the one after it is fixed as the turn begins
abbrev pub member_turn : Line → (set : ℕ) → (reverse : Bool) → Option Value → (go : ℤ → Part Turn) → ℤ → Part (Next ℤ Bool)
member_turn l set reverse o go x w =
    outcome_then (look l (coming reverse set x) w) (λ next w. outcome_then (go x w) (next_member l set o next))

abbrev pub over_members : ℕ → Line → (set : ℕ) → (reverse : Bool) → (go : ℤ → Part Turn) → Outset → Part Bool
over_members n l set reverse go b =
    choose (is_none b.first) (WentOn false) (loop n (member_turn l set reverse b.owner go) b.first)

-- ## FOR, and loops led by WHILE or UNTIL

-- a FOR that makes at most n turns: whether the case was found. With n ticks no more than the first n + 1 items are reached
abbrev pub over : ℕ → Line → Head → Part Turn → Part Bool
over n l (Numbers x a b c) turn w = outcome_then (look l (range a b c) w) (λ r. over_items (visit l x turn) (range_items (suc n) r))
over n l (Each x class) turn w = outcome_then (look l (indices class) w) (λ r. over_items (visit l x turn) (range_items (suc n) r))
over n l (Members x set owner start reverse) turn w =
    outcome_then (look l (loop_outset start reverse set owner) w) (over_members n l set reverse (visit l x turn))

-- a turn of a loop led by conditions, which are tested again after it
abbrev pub guarded_turn : Line → List Guard → (body : Part (Unit {0})) → Unit {0} → Part (Next (Unit {0}) (Unit {0}))
guarded_turn l guards body u w =
    outcome_then (body w) (λ _ w. outcome_then (look l (all_pass guards) w) (λ b. choose b (WentOn (Again tt)) (WentOn (Over tt))))

abbrev pub guarded : ℕ → Line → List Guard → (body : Part (Unit {0})) → Part (Unit {0})
guarded n l guards body w =
    outcome_then (look l (all_pass guards) w) (λ b. choose b (loop n (guarded_turn l guards body) tt) (WentOn tt))
