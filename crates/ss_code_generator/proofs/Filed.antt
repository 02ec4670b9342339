-- What the generator emits for members of sets.
use Rattle.std.proofs.Common.{◌≡◌, ℕ, ◌+◌, ◌<◌, ◌^◌, Bool, true, false, [], ◌∷◌, ◌++◌, refl, sym, ap, ◌∙◌, if◌then◌else◌}
use Rattle.ss_code_generator.proofs.Common.{Address, End, filing_instruction, filing_of, Final, Generator, HasAssignedLanded, HasBorne, HasEmitted, HasGrown, HasPrintModes, HasReadBy, HasReadOperand, Integer, IsAround, IsCarriedOut, IsInteger, IsSiteBearer, IsSiteOperand, IsSpot, IsTypedOwner, IsTypedStatement, IsTypedTest, Lined, OfCount, on_line, Ordering, place_code, remove_end_code, removing, slice_get, Spot, spot_cells, view_program}
use Rattle.ss_code_instructions.specs.Facts.{expression_of, watch, may_fault}
use Rattle.ss_code_instructions.specs.Instructions.{Instruction, Operand, Bearer, FilingPlace}
use Rattle.ss_code_instructions.specs.Translation.{after, after_bearer, bearer, code_of, operand, place, Site, stay, with_owner, member_code, file_code, remove_code, test_code, filing_by}
use Rattle.ss_program.specs.Program.{Expression, Place, Program, RemoveEnd, SetOwner, ByDiscipline, BeforeMember, AfterMember, File, Member}
use Rattle.ss_code_instructions.specs.declared.instruction.Instruction.{Instruction as Running}
use Rattle.ss_code_instructions.specs.declared.instruction.Instruction.TheVariants as r
use Rattle.ss_code_instructions.specs.Instructions as i
use Rattle.ss_code_generator.specs.declared.expressions.Operand.{Operand as Read}
use Rattle.ss_code_generator.specs.declared.generator.Site.{Site as Here}
use Rattle.ss_code_generator.proofs.Emitting.{grows_same, grows_then, makes_later, adds_then, adds_one, adds_same, emits}
use Rattle.ss_code_generator.proofs.Forms as forms
use Rattle.ss_code_generator.proofs.Operands.{read_stands, stays_at, one_read}
use Rattle.ss_code_generator.proofs.Testing.{owner_number, emits_where}
use Rattle.ss_code_generator.proofs.Letting.{MakesSpot, Lands, to_place_by}

-- whether a statistic watches a set, as the generator knows it
pub counts_noted : {f : Final} {g : Generator} (set : ℕ) {noted : Bool} → IsAround f g → noted ≡ watch g.program.now.statistics.items (OfCount set) → noted ≡ false → watch (code_of f.program).setting.statistics (OfCount set) ≡ false
counts_noted set around e h = ap (λ (p : Program). watch (code_of p).setting.statistics (OfCount set)) (sym around.program) ∙ sym e ∙ h

-- a member that is looked at
pub member_looked : {old new : Generator} {p q v : Lined} {here : Here} (set : ℕ) {e : Expression} {o : Read} → HasReadOperand old new p q here e o → v ≡ q ++ on_line here.line (r.LookMember set o.address) ∷ [] → HasReadBy old new p v here (IsInteger e) e o (λ t. member_code t true set e)
member_looked set {e} {o} m is =
    one_read (λ t u x. i.LookMember set (stay x)) (r.LookMember set o.address) grows_same m is (λ f t u good. (Integer, good))
    (λ f t u around located good read. ((stay (operand t e), stays_at f t (operand t e) o.address read.at, refl), tt)) (λ f t u read. read)

-- a member, the owner of its set, and an instruction that works on both
pub member_works : {old mid new : Generator} {p q v s : Lined} {here higher : Here} (set : ℕ) {e : Expression} (o : SetOwner) {member owner : Read} (make : Operand → Bearer → Instruction) (y : Running) → HasReadBy old mid p q here (IsInteger e) e member (λ t. member_code t (may_fault (expression_of o)) set e) → higher.line ≡ here.line → (here.height + member.cells < 2 ^ 64 → higher.height ≡ here.height + member.cells) → HasBorne mid new q v higher (expression_of o) owner → s ≡ v ++ on_line here.line y ∷ [] → ((f : Final) (t : Site) → IsAround f new → IsSiteOperand f (after_bearer (after t e) (expression_of o)) (operand t e) member.address → IsSiteBearer f (after_bearer (after t e) (expression_of o)) (bearer (after t e) (expression_of o)) owner.address → IsCarriedOut (code_of f.program) f.constants (place (after_bearer (after t e) (expression_of o)) (make (operand t e) (bearer (after t e) (expression_of o)))) y × HasPrintModes f.prints (after_bearer (after t e) (expression_of o)).cells (make (operand t e) (bearer (after t e) (expression_of o)))) → HasEmitted old new p s here (λ k. IsInteger e k × IsTypedOwner k set o) (λ t. member_code t (may_fault (expression_of o)) set e ++ with_owner (after t e) o (make (operand t e)))
member_works set {e} o make y m line above n is suits =
    emits (grows_then m.grows n.grows) (λ f t u around located good.
    let t1 : Site = after t e in
    let there = makes_later n.grows m in
    let read = there.more f t tt around located good.0 in
    let on_top = read_stands around located read line above in
    let number = owner_number t.scope set o good.1 in
    let borne = n.more f t1 tt around on_top number in
    let c = suits f t around read.at borne.at in
    adds_then (there.adds f t tt around located good.0) (adds_then (n.adds f t1 tt around on_top number) (adds_one is located.line (record { carries = c.0; deep = borne.deep; shown = c.1 }))))

pub member_filed : {old mid new : Generator} {p q v s : Lined} {here higher : Here} (set : ℕ) {e : Expression} (o : SetOwner) {member owner : Read} (ordering : Ordering) {noted : Bool} → HasReadBy old mid p q here (IsInteger e) e member (λ t. member_code t (may_fault (expression_of o)) set e) → higher.line ≡ here.line → (here.height + member.cells < 2 ^ 64 → higher.height ≡ here.height + member.cells) → HasBorne mid new q v higher (expression_of o) owner → noted ≡ watch new.program.now.statistics.items (OfCount set) → s ≡ v ++ on_line here.line (filing_instruction ordering set member.address owner.address noted) ∷ [] → HasEmitted old new p s here (λ k. IsInteger e k × IsTypedOwner k set o) (λ t. member_code t (may_fault (expression_of o)) set e ++ with_owner (after t e) o (i.File (filing_of ordering) set (operand t e)))
member_filed set {e} o {member} {owner} ordering {noted} m line above n watched is =
    member_works set o (λ x b. i.File (filing_of ordering) set x b) (filing_instruction ordering set member.address owner.address noted) m line above n is (λ f t around at of. (
      forms.files (code_of f.program) f.constants (place (after_bearer (after t e) (expression_of o)) (i.File (filing_of ordering) set (operand t e) (bearer (after t e) (expression_of o)))) ordering set member.address owner.address noted (counts_noted set around watched)
          (operand t e, at, (bearer (after t e) (expression_of o), of, refl)),
      tt,
    ))

pub member_removed : {old mid new : Generator} {p q v s : Lined} {here higher : Here} (set : ℕ) {e : Expression} (o : SetOwner) {member owner : Read} {noted : Bool} → HasReadBy old mid p q here (IsInteger e) e member (λ t. member_code t (may_fault (expression_of o)) set e) → higher.line ≡ here.line → (here.height + member.cells < 2 ^ 64 → higher.height ≡ here.height + member.cells) → HasBorne mid new q v higher (expression_of o) owner → noted ≡ watch new.program.now.statistics.items (OfCount set) → s ≡ v ++ on_line here.line (r.Remove set member.address owner.address noted) ∷ [] → HasEmitted old new p s here (λ k. IsInteger e k × IsTypedOwner k set o) (λ t. remove_code t set e o)
member_removed set {e} o {member} {owner} {noted} m line above n watched is =
    member_works set o (λ x b. i.Remove set x b) (r.Remove set member.address owner.address noted) m line above n is (λ f t around at of.
    ((counts_noted set around watched, (operand t e, at, (bearer (after t e) (expression_of o), of, refl))), tt))

-- whether an entity is in a set
pub membership_tested : {old mid new : Generator} {p q v s : Lined} {here higher : Here} (skip : ℕ) (negated : Bool) (set : ℕ) {e : Expression} (o : SetOwner) {member owner : Read} → HasReadBy old mid p q here (IsInteger e) e member (λ t. member_code t (may_fault (expression_of o)) set e) → higher.line ≡ here.line → (here.height + member.cells < 2 ^ 64 → higher.height ≡ here.height + member.cells) → HasBorne mid new q v higher (expression_of o) owner → s ≡ v ++ on_line here.line (r.UnlessMember set member.address owner.address skip negated) ∷ [] → HasEmitted old new p s here (λ k. IsTypedTest k (Member negated set e o)) (λ t. test_code t skip (Member negated set e o))
membership_tested skip negated set {e} o {member} {owner} m line above n is =
    member_works set o (λ x b. i.UnlessMember negated set x b skip) (r.UnlessMember set member.address owner.address skip negated) m line above n is (λ f t around at of.
    ((operand t e, at, (bearer (after t e) (expression_of o), of, refl)), tt))

-- where a member is filed, by what the statement says
pub filed_by_discipline : {old new : Generator} {p q : Lined} {here : Here} (set : ℕ) (e : Expression) (o : SetOwner) (ordering : Ordering) → filing_of ordering ≡ filing_by (slice_get old.program.now.disciplines.items set) → HasEmitted old new p q here (λ k. IsInteger e k × IsTypedOwner k set o) (λ t. member_code t (may_fault (expression_of o)) set e ++ with_owner (after t e) o (i.File (filing_of ordering) set (operand t e))) → HasEmitted old new p q here (λ k. IsTypedStatement k (File here.line set e ByDiscipline o)) (λ t. file_code t set e ByDiscipline o)
filed_by_discipline set e o ordering by m =
    emits_where (λ f t u h. (h.0, h.2)) (λ f t u around located.
    ap (λ (k : FilingPlace). member_code t (may_fault (expression_of o)) set e ++ with_owner (after t e) o (i.File k set (operand t e)))
    (by ∙ ap (λ (p : Program). filing_by (slice_get p.disciplines set)) (sym (located.program ∙ sym around.program ∙ ap view_program m.grows.program)))) m

-- directly before another member, or directly after it
abbrev next_to : (after : Bool) → Operand → FilingPlace
next_to b y = if b then i.After y else i.Before y

beside_is : (t : Site) (set : ℕ) (e beside : Expression) (o : SetOwner) (b : Bool) → member_code t true set e ++ (member_code (after t e) true set beside ++ with_owner (after (after t e) beside) o (i.File (next_to b (operand (after t e) beside)) set (operand t e))) ≡ file_code t set e (if b then AfterMember beside else BeforeMember beside) o
beside_is t set e beside o true = refl
beside_is t set e beside o false = refl

pub member_beside : {old one two new : Generator} {p q v w s : Lined} {here higher highest : Here} (set : ℕ) {e beside : Expression} (o : SetOwner) {member neighbour owner : Read} (b : Bool) {noted : Bool} → HasReadBy old one p q here (IsInteger e) e member (λ t. member_code t true set e) → higher.line ≡ here.line → (here.height + member.cells < 2 ^ 64 → higher.height ≡ here.height + member.cells) → HasReadBy one two q v higher (IsInteger beside) beside neighbour (λ t. member_code t true set beside) → highest.line ≡ higher.line → (higher.height + neighbour.cells < 2 ^ 64 → highest.height ≡ higher.height + neighbour.cells) → HasBorne two new v w highest (expression_of o) owner → noted ≡ watch new.program.now.statistics.items (OfCount set) → s ≡ w ++ on_line here.line (r.FileBeside noted b set member.address neighbour.address owner.address) ∷ [] → HasEmitted old new p s here (λ k. IsInteger e k × IsInteger beside k × IsTypedOwner k set o) (λ t. file_code t set e (if b then AfterMember beside else BeforeMember beside) o)
member_beside set {e} {beside} o {member} {neighbour} {owner} b {noted} m line above n line2 above2 n2 watched is =
    let late = grows_then n.grows n2.grows in
    emits (grows_then m.grows late) (λ f t u around located good.
    let t1 : Site = after t e in
    let t2 : Site = after t1 beside in
    let first = makes_later late m in
    let second = makes_later n2.grows n in
    let read = first.more f t tt around located good.0 in
    let on_top = read_stands around located read line above in
    let read2 = second.more f t1 tt around on_top good.1 in
    let on_top2 = read_stands around on_top read2 line2 above2 in
    let number = owner_number t.scope set o good.2 in
    let borne = n2.more f t2 tt around on_top2 number in
    let runs : IsCarriedOut (code_of f.program) f.constants (place (after_bearer t2 (expression_of o)) (i.File (next_to b (operand t1 beside)) set (operand t e) (bearer t2 (expression_of o)))) (r.FileBeside noted b set member.address neighbour.address owner.address) =
    (counts_noted set around watched, (operand t1 beside, read2.at, (operand t e, read.at, (bearer t2 (expression_of o), borne.at, refl)))) in
    adds_same (beside_is t set e beside o b)
    (adds_then (first.adds f t tt around located good.0) (adds_then (second.adds f t1 tt around on_top good.1) (adds_then (n2.adds f t2 tt around on_top2 number)
    (adds_one is located.line (record { carries = runs; deep = borne.deep; shown = tt }))))))

-- ## REMOVE FIRST and REMOVE LAST

-- the place, the owner, the member that is removed, and what is left to do for the place
pub end_removed : {old mid one new : Generator} {p q v w z : Lined} {here higher : Here} (x : Place) (s : Spot) (end : End) (set : ℕ) (o : SetOwner) {owner : Read} (to : Address) {noted : Bool} → MakesSpot old mid p q here (λ t. place_code t x) x s → higher.line ≡ here.line → (here.height + spot_cells s < 2 ^ 64 → higher.height ≡ here.height + spot_cells s) → HasBorne mid one q v higher (expression_of o) owner → HasGrown one new → Lands new higher s to → noted ≡ watch new.program.now.statistics.items (OfCount set) → w ≡ v ++ on_line here.line (removing end set owner.address to noted) ∷ [] → HasAssignedLanded new w z higher to (λ f t k. IsSpot f t k s) → HasEmitted old new p z here (λ k. IsTypedStatement k (RemoveEnd here.line end set x o)) (λ t. remove_end_code t end set x o)
end_removed {here = here} x s end set o {owner} to {noted} l line up b g land watched is n =
    to_place_by x Integer s to (λ k. IsTypedStatement k (RemoveEnd here.line end set x o)) (λ u k. with_owner u o (λ y. i.RemoveEnd end set y k)) l line up (grows_then b.grows g) land (λ k h. h.0) (λ f u k around on at good.
    let c = expression_of o in
    let ins : Instruction = i.RemoveEnd end set (bearer u c) k in
    let number = owner_number u.scope set o good.1 in
    let there = makes_later g b in
    let borne = there.more f u tt around on number in
    let carries = forms.removes (code_of f.program) f.constants (place (after_bearer u c) ins) end set owner.address to noted (counts_noted set around watched) (bearer u c, borne.at, (k, at, refl)) in
    adds_then (there.adds f u tt around on number) (adds_one is (on.line ∙ line) (record { carries = carries; deep = borne.deep; shown = tt }))) n
