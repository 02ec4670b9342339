-- The event routines of a program that breaks no rule.
use Rattle.std.proofs.Common.{◌≡◌, ◌≢◌, ℕ, zero, suc, ◌+◌, ◌<◌, ◌≤◌, Bool, true, false, List, [], ◌∷◌, length, get_or, take, map, flat_map, slice_get, option_map, Option, Some, None, is_some, IfSome, refl, sym, ap, subst, subst₂, ◌∙◌, nat_eq, nat_le, take-append-drop, length-take, get_or-take, arith, ◌++◌}
use Rattle.ss_check_laws.proofs.Common.{at_item, at_place, attribute_mode, class_by, class_layout, ClassKind, cond-true, CountedClass, declarations, Declared, Done, each_at, each_empty, each_made, Event, event_by, EventSection, every_first, flat_map_from, from_places, get_or_from_slice_get, given_by, Global, goes, hidden_by, holds_unless, in_parts, Integer, is_main, keys_of, known_mode, leb-true, Line, local_mode, Meaning, meaning_mode, Mode, mode_of_attribute, mode_of_use, NameBytes, none-some, numbers_at, option_and_then, option_map_or, place_in, PlainClass, PlainLayout, Program, ResolvedLayout, same_Some, Scope, scope_of, slice_get-get_or, slice_get_within, Table, table, Use, value_for}
use Rattle.std.specs.List.{AllByRecursion as Every, list_any}
use Rattle.std.proofs.lemmas.List.{length-take-le}
use Rattle.std.proofs.lemmas.Map.Entries.{length-keys_of}
use Rattle.ss_check_rules.specs.Refusal.{use_breaks, eventless, eventless_of, in_preamble}
use Rattle.ss_names_declarations.proofs.Entries.{firsts_once, place_from, there, entry_of_key, key_at, place_of_value, value_at, value_from_place}
use Rattle.ss_names_meaning.specs.Answers.{each, ◌>>=◌}
use Rattle.ss_names_meaning.specs.Resolved.{event_from, local_modes, class_variable, event_of_class, saved}
use Rattle.ss_names_scopes.specs.Locals.{locals_of, defined, local_used, moded_in}
use Rattle.ss_program.specs.WellTyped.{IsTypedBlock, IsTypedEvent, AreTypedKeys, IsPlain}
use Rattle.ss_base.specs.declared.layout.ClassKind.TheVariants as kinds
use Rattle.ss_tree.specs.Tree as tree
use Rattle.ss_names_declarations.specs.declared.declaration.Declared.TheVariants as d
use Rattle.ss_names_uses.specs.Uses as uses
use Rattle.ss_names_uses.specs.declared.used.CountNeed.TheVariants as counts
use Rattle.ss_names_uses.specs.declared.used.ModeOf.TheVariants as modes
use Rattle.ss_names.specs.declared.meaning.Meaning.TheVariants as m
use Rattle.ss_check_rules.specs.Counts.{suits_count}
use Rattle.ss_check_rules.specs.declared.error.CheckError.TheVariants as errors
use Rattle.ss_names_laws.specs.ValidTables.{IsNamedClass, parameters_of}
use Rattle.ss_names_laws.proofs.Parts.{class_parts, numbers_length, parts_of}
use Rattle.ss_names_laws.proofs.Each.{at_number}
use Rattle.ss_names_laws.proofs.Sources.{DeclaresClass, every_made, IsEventSection, IsMade}
use Rattle.ss_names_laws.proofs.Steps.{none_listed, some_there}
use Rattle.ss_check_laws.proofs.Steps.{agree}
use Rattle.ss_check_laws.proofs.Ranks.{IsNotice, notice_is_ranked, ranks_are_notices}
use Rattle.ss_check_laws.proofs.Routines.{IsUnbroken, IsWhole, Keeps, body_good, laid_with, preamble_kept, program_with, section, section_modes, section_valid, uses_kept}

-- ---- steps

equal_takes : {A : Type 0} (n : ℕ) (xs ys : List A) → ((i : ℕ) → i < n → (z : A) × (slice_get xs i ≡ Some z) × (slice_get ys i ≡ Some z)) → take n xs ≡ take n ys
equal_takes zero xs ys h = refl
equal_takes (suc n) [] ys h = let z = h 0 (omega arith) in absurd (none-some z.0 z.1)
equal_takes (suc n) (x ∷ xs) [] h = let z = h 0 (omega arith) in absurd (none-some z.0 z.2)
equal_takes (suc n) (x ∷ xs) (y ∷ ys) h =
    let z = h 0 (omega arith) in
    let first : x ≡ y = same_Some x z.0 z.1 ∙ sym (same_Some y z.0 z.2) in
    let rest = equal_takes n xs ys (λ i lt. h (suc i) (omega arith)) in
    λ j. first j ∷ rest j

as_numbered : {A : Type 0} (f : ℕ → A → List Use) (n : ℕ) (xs : List A) → uses.in_places f n xs ≡ flat_map_from f n xs
as_numbered f n [] = refl
as_numbered f n (x ∷ xs) = ap (λ l. f n x ++ l) (as_numbered f (n + 1) xs)

module _ (p : tree.ProgramTree) (x : ResolvedLayout) (k : IsUnbroken p x) where
  abbrev t : Table
  t = table p

  -- ---- classes

  pub class_there : (class : ℕ) (name : NameBytes) (kind : ClassKind) → slice_get t.classes class ≡ Some (name, kind) → (c : PlainClass) × (slice_get x.layout.classes class ≡ Some c) × (c.kind ≡ kind)
  class_there class name kind e =
      let at = numbers_at (class_layout t) (length t.classes) x.layout.classes class (parts_of t x k.valid.laid).are_classes (slice_get_within t.classes class (name, kind) e) in
      (at.0, at.1, same_Some at.0.kind kind (sym (class_parts t class at.0 at.2).0 ∙ value_at t.classes class name kind e))

  -- a class of notices is in the order of rank
  pub class_is_ranked : (class : ℕ) (c : PlainClass) → slice_get x.layout.classes class ≡ Some c → c.kind ≡ kinds.Notice → list_any (nat_eq class) t.ranks ≡ true
  class_is_ranked class c e f =
      let n = k.valid.classes class c e in
      let entry = entry_of_key t.classes class n.name n.there in
      let known = class_there class n.name entry.0 entry.1 in
      let kind : entry.0 ≡ kinds.Notice = sym known.2 ∙ ap (λ (z : PlainClass). z.kind) (same_Some known.0 c (sym known.1 ∙ e)) ∙ f in
      notice_is_ranked (declarations p) class (n.name, entry.1 ∙ ap (λ z. Some (n.name, z)) kind)

  -- ---- EVENT sections

  -- a class of notices has one
  abbrev HasEvent : NameBytes × ClassKind → Type 0
  HasEvent e = e.1 ≡ kinds.Notice → is_some (value_for t.events e.0) ≡ true

  has_event : (line : Line) (name : NameBytes) → eventless t line name ≡ [] → is_some (value_for t.events name) ≡ true
  has_event line name e = holds_unless (is_some (value_for t.events name)) (errors.NoEventRoutine line) (none_listed _ e)

  class_has_event : (name : NameBytes) (kind : ClassKind) (s : tree.PreambleTree) → in_preamble t s ≡ [] → DeclaresClass name kind s → HasEvent (name, kind)
  class_has_event name kind (tree.event_notices line names) e a f =
      has_event line name (at_item (λ z. eventless t line z ≡ []) names name (each_empty (eventless t line) names e) a)
  class_has_event name kind (tree.every line own class clauses) e a f =
      subst (λ n. is_some (value_for t.events n) ≡ true) a.0 (has_event line class (subst (λ z. eventless_of t line z class ≡ []) (a.1 ∙ f) e))
  class_has_event name kind _ e a f = absurd a

  classes_have_events : (w : Declared) → IsMade p w → Every HasEvent (class_by w)
  classes_have_events (d.Class name kind) h =
      (class_has_event name kind h.1 (at_place (λ z. in_preamble t z ≡ []) p.preamble h.0 h.1 (preamble_kept p x k) h.2) h.3, tt)
  classes_have_events _ h = tt

  all_have_events : Every HasEvent t.classes
  all_have_events = every_first HasEvent (given_by class_by (declarations p)) (every_made p HasEvent class_by classes_have_events)

  of_event : (w : Declared) → IsMade p w → Every (IsEventSection p) (event_by w)
  of_event (d.Event name section given saving) h = (h.1, tt)
  of_event _ h = tt

  of_events : Every (IsEventSection p) t.events
  of_events = every_first (IsEventSection p) (given_by event_by (declarations p)) (every_made p (IsEventSection p) event_by of_event)

  -- a class of notices with its EVENT section
  pub record HasSection (class : ℕ) : Type 0 where
    pub laid : PlainClass
    pub there : slice_get x.layout.classes class ≡ Some laid
    pub notice : laid.kind ≡ kinds.Notice
    pub named : IsNamedClass t class laid
    pub known : EventSection
    pub event : value_for t.events named.name ≡ Some known
    pub section : IsEventSection p (named.name, known)

  has_section : (class : ℕ) → IsNotice t.classes class → HasSection class
  has_section class h =
      let c = class_there class h.0 kinds.Notice h.1 in
      let n = k.valid.classes class c.0 c.1 in
      let same : h.0 ≡ n.name = same_Some h.0 n.name (sym (key_at t.classes class h.0 kinds.Notice h.1) ∙ n.there) in
      let event = at_place HasEvent t.classes class (h.0, kinds.Notice) all_have_events h.1 refl in
      let known = some_there (value_for t.events n.name) (subst (λ name. is_some (value_for t.events name) ≡ true) same event) in
      let at = place_of_value t.events n.name known.0 known.1 in
      record { laid = c.0; there = c.1; notice = c.2; named = n; known = known.0; event = known.1; section = at_place (IsEventSection p) t.events at.0 (n.name, known.0) of_events at.1.1 }

  pub event_kept : (n : ℕ) (s : tree.SectionTree) (name : NameBytes) (given : List NameBytes) (saving : Bool) → slice_get p.sections n ≡ Some s → s.kind ≡ tree.event name given saving → Keeps p x k s (uses.in_event s.line name given)
  event_kept n s name given saving e f = subst (λ kind. Keeps p x k s (uses.in_kind s.line kind)) f (uses_kept p x k n s e).0

  -- ---- the event routine of a class

  module _ (class : ℕ) (n : HasSection class) where
    abbrev s : tree.SectionTree
    s = n.section.0

    abbrev given : List NameBytes
    given = n.section.1

    abbrev name : NameBytes
    name = n.named.name

    abbrev sc : Scope
    sc = scope_of t p.sections s

    head : Keeps p x k s (uses.in_event s.line name given)
    head = event_kept n.known.section s name given n.known.saving n.section.2 n.section.3

    placed : place_in t.classes name ≡ Some class
    placed = k.valid.numbered name class n.laid.kind n.named.variable n.named.meant

    -- it is given no more than the class has attributes
    limit : nat_le (length given) (length (get_or t.fields class [])) ≡ true
    limit = sym (ap (λ (o : Option ℕ). option_map_or (λ (n : ℕ). nat_le (length given) (length (get_or t.fields n []))) o true) placed) ∙ holds_unless (suits_count t (length given) (counts.Attributes name)) (errors.Arguments s.line) head.1.0

    -- what it is given in a place has the mode of the attribute in that place
    mode_given : (ms : List Mode) → local_modes (locals_of t s) ≡ Some ms → take (length given) (keys_of (locals_of t s)) ≡ given → length given ≤ length (locals_of t s) →
        (i : ℕ) → i < length given → (z : Mode) × (slice_get ms i ≡ Some z) × (slice_get n.laid.fields i ≡ Some z)
    mode_given ms moded first many i lt =
        let locals = locals_of t s in
        let holds = λ (u : Use). use_breaks sc (is_main s.kind) u ≡ None in
        let once = firsts_once (map (moded_in t.usual (defined (uses.uses s))) (flat_map (local_used t) (uses.uses s))) in
        let g = there given i lt in
        let key : slice_get (keys_of locals) i ≡ Some g.0 =
        slice_get-get_or (keys_of locals) i g.0 (omega (arith, length-keys_of locals))
        ∙ ap Some (sym (get_or-take (length given) (keys_of locals) i g.0 lt) ∙ ap (λ l. get_or l i g.0) first ∙ get_or_from_slice_get given i g.0 g.0 g.1) in
        let entry = entry_of_key locals i g.0 key in
        let mode = numbers_at (local_mode locals) (length locals) ms i moded (omega arith) in
        let known : entry.0 ≡ Some mode.0 = sym (ap (λ (o : Option (Option Mode)). option_and_then (λ (m : Option Mode). m) o) (value_at locals i g.0 entry.0 entry.1)) ∙ mode.2 in
        let place = place_from locals i g.0 entry.0 once entry.1 in
        let value = value_from_place locals i g.0 entry.0 once entry.1 in
        let named : mode_of_use sc (modes.Named g.0) ≡ Some mode.0 =
        (λ j. meaning_mode (hidden_by locals g.0 (place j) (value_for t.meanings g.0))) ∙ ap (λ (o : Option (Option Mode)). Some (known_mode o)) (value ∙ ap Some known) in
        let a = there (get_or t.fields class []) i (omega (arith, leb-true (length given) (length (get_or t.fields class [])) limit)) in
        let field = each_at (mode_of_attribute t) (get_or t.fields class []) n.laid.fields i a.0 n.named.fields a.1 in
        let attribute : mode_of_use sc (modes.Attribute name i) ≡ Some field.0 = ap (λ o. attribute_mode t o i) placed ∙ ap (option_and_then (mode_of_attribute t)) a.1 ∙ field.2 in
        let places = in_parts holds (map (uses.parameter_use s.line) given) (uses.in_places (uses.as_attribute s.line name) 0 given) head.1.1 in
        let used = at_number (uses.as_attribute s.line name) (Every holds) (in_parts holds) given i g.0 (subst (Every holds) (as_numbered (uses.as_attribute s.line name) 0 given) places.1) g.1 in
        let same = agree (mode_of_use sc (modes.Named g.0)) (mode_of_use sc (modes.Attribute name i)) mode.0 field.0 (errors.Mode s.line) used.0 named attribute in
        (mode.0, mode.1, field.1 ∙ ap Some (sym same))

    modes_given : (ms : List Mode) → local_modes (locals_of t s) ≡ Some ms → (length given ≤ length ms) × (take (length given) ms ≡ take (length given) n.laid.fields)
    modes_given ms moded =
        let locals = locals_of t s in
        let v = section_valid p x k n.known.section s n.section.2 in
        let first : take (length given) (keys_of locals) ≡ given = subst (λ kind. take (length (parameters_of kind)) (keys_of locals) ≡ parameters_of kind) n.section.3 v.parameters in
        let cut = ap length first in
        let all = length-take (length given) (keys_of locals) in
        let keys = length-keys_of locals in
        let many : length given ≤ length locals = omega arith in
        let count = numbers_length (local_mode locals) (length locals) ms moded in
        (omega arith, equal_takes (length given) ms n.laid.fields (λ i lt. mode_given ms moded first many i lt))

    -- the variable that gets the number of a notice
    saves : (b : Bool) → (o : Option ℕ) × (saved t name b ≡ Some o) × ((q : Program) → IsWhole p x k q → IfSome o (λ v. (slice_get q.globals v ≡ Some Integer) × IsPlain q (Global v)))
    saves false = (None, refl, λ q b. tt)
    saves true =
        let plain = (k.valid.meanings name (m.Class class n.laid.kind n.named.variable) n.named.meant).1 in (
          Some n.named.variable,
          ap (λ (o : Option Meaning). o >>= λ meaning. class_variable meaning) n.named.meant,
          λ q b.
              (ap (λ l. slice_get l n.named.variable) b.layout.globals ∙ plain.0, subst (λ l. Every (λ (count : CountedClass). count.variable ≢ n.named.variable) l) (sym b.layout.counts) plain.1),
        )

    pub event_made : (e : Event) × (event_from t (section p x k) class ≡ Some e) × (e.class ≡ class) × ((q : Program) → IsWhole p x k q → IsTypedEvent q e)
    event_made =
        let at = n.known.section in
        let parts = section_modes p x k at s n.section.2 in
        let variable = saves n.known.saving in
        let keys = (k.typed (program_with p x k [] [] [] Done) (laid_with p x k [] [] [] Done)).ties class name n.named.there in
        let most = ap (λ i. nat_le i (length (get_or t.fields class []))) n.section.4 ∙ limit in
        let given_are = modes_given parts.0.modes parts.2 in
        let cut : take n.known.given parts.0.modes ≡ take n.known.given n.laid.fields = (λ j. take (n.section.4 j) parts.0.modes) ∙ given_are.1 ∙ (λ j. take (sym n.section.4 j) n.laid.fields) in
        let short = given_are.0 in
        let same_count = n.section.4 in
        let count : length (take n.known.given parts.0.modes) ≡ n.known.given = length-take-le n.known.given parts.0.modes (omega arith) in
        let event = event_of_class class keys.0 n.known.given variable.0 parts.0 in (
          event,
          goes _ _ name event n.named.there (goes _ _ n.known event n.event (goes _ _ n.known.given event (cond-true _ (Some n.known.given) None most)
              (goes _ _ keys.0 event keys.1 (goes _ _ variable.0 event variable.1 (goes _ _ parts.0 event parts.1 refl))))),
          refl,
          λ q b.
              let laid : slice_get q.layout.classes class ≡ Some n.laid = ap (λ (l : PlainLayout). slice_get l.classes class) b.layout.layout ∙ n.there in
              let ties = (k.typed q b.layout).ties class name n.named.there in
              record {
                modes = n.laid.fields;
                fields = ap (option_map (λ (c : PlainClass). c.fields)) laid;
                notice = ap (option_map (λ (c : PlainClass). c.kind)) laid ∙ ap Some n.notice;
                ties = subst (AreTypedKeys q class) (same_Some ties.0 keys.0 (sym ties.1 ∙ keys.1)) ties.2;
                given = cut ∙ ap (λ i. take i n.laid.fields) (sym count);
                saved = variable.2 q b;
                body = subst₂ (λ (locals : List Mode) (in_main : Bool). IsTypedBlock (record { program = q; locals = locals; is_main = in_main }) parts.0.body) (sym (take-append-drop n.known.given parts.0.modes)) (ap is_main n.section.3)
                    (body_good p x k q b at s parts.0 n.section.2 parts.1);
              },
        )

  pub event_there : (i class : ℕ) → slice_get t.ranks i ≡ Some class →
      (e : Event) × (event_from t (section p x k) class ≡ Some e) × (e.class ≡ class) × ((q : Program) → IsWhole p x k q → IsTypedEvent q e)
  event_there i class e = event_made class (has_section class (at_place (IsNotice t.classes) t.ranks i class (ranks_are_notices (declarations p)) e))

  pub events_there : (es : List Event) × (each (event_from t (section p x k)) t.ranks ≡ Some es) × Every (λ e. (q : Program) → IsWhole p x k q → IsTypedEvent q e) es
  events_there =
      let good = λ (e : Event). (q : Program) → IsWhole p x k q → IsTypedEvent q e in
      each_made (event_from t (section p x k)) good t.ranks (from_places (λ class. (e : Event) × (event_from t (section p x k) class ≡ Some e) × good e) t.ranks (λ i class e.
      let r = event_there i class e in (r.0, r.1, r.3)))
