-- The layout of a program that breaks no rule is there with all of its parts, and is well typed.
use Rattle.std.proofs.Common.{◌≡◌, ◌≢◌, ℕ, ◌==◌, Bool, false, List, length, Option, Some, None, option_map, option_and_then, refl, sym, ap, subst, ◌∙◌}
use Rattle.ss_names_laws.proofs.Common.{Attribute, cond_some, count_by, CountedClass, counts, declarations, declares, DefinedOrder, Discipline, discipline, entry_of_key, eqb-true, given_by, Global, is_text, IsMeant, IsValidTable, keys_of, Meaning, MemberCount, Mode, NameBytes, numbered, OfAttribute, OfCount, OfVariable, ordered, Permanent, PlainClass, PlainLayout, ProgramTree, rank_key, rank_keys, ranked_by, RankedBy, RankKey, refusal_of_uses, resolved_statistic, ResolvedLayout, ruled, same_name, same_Some, Set, set_layout, SetLayout, SetRule, slice_get, slice_get-map, Statistic, Subject, subject_of, table, tie_keys, tied_by, TiedBy, value_for, values_of}
use Rattle.std.specs.List.{AllZip, AllByRecursion as Every, filter}
use Rattle.ss_base.specs.declared.layout.Mode.TheVariants.{Integer}
use Rattle.ss_names_meaning.specs.Answers.{upto, where_holds}
use Rattle.ss_base.specs.declared.layout.Discipline.TheVariants as orders_of
use Rattle.ss_program.specs.Program.{Program}
use Rattle.ss_program.specs.WellTyped as typed
use Rattle.ss_names_declarations.specs.declared.declaration.SetRule.TheVariants as rules
use Rattle.ss_names.specs.declared.meaning.Meaning.TheVariants as m
use Rattle.ss_names_laws.specs.Laws.{HasLayout, LayoutsAreWellTyped, TablesAreThere}
use Rattle.ss_names_laws.proofs.Each.{at_place, every_piece}
use Rattle.ss_names_laws.proofs.NameTable.{value_of_entry}
use Rattle.ss_names_laws.proofs.Items.{from_image}
use Rattle.ss_names_laws.proofs.Keys.{disciplines_there, ties_there}
use Rattle.ss_names_laws.proofs.Known.{name_known}
use Rattle.ss_names_laws.proofs.Layouts.{layouts_are_there}
use Rattle.ss_names_laws.proofs.Meanings.{field_at, kind_at, tables_are_valid}
use Rattle.ss_names_laws.proofs.Parts.{IsMadeOf, parts_of, set_parts, subject_kept}
use Rattle.ss_names_laws.proofs.Results.{each_every, each_zip, goes}
use Rattle.ss_names_laws.proofs.Statistics.{IsWatched, all_watched, statistics_there}
use Rattle.ss_names_laws.proofs.Steps.{got, mapped}

-- ---- it is there

pub tables_are_there : TablesAreThere
tables_are_there p kept used =
    let laid = layouts_are_there p kept in
    let orders = disciplines_there p kept in
    let stats = statistics_there p used in
    let made : ResolvedLayout = record { layout = laid.0; disciplines = orders.0; globals = values_of (table p).variables; counts = counts (table p); statistics = stats.0 } in
    (made, goes _ _ laid.0 made laid.1 (goes _ _ orders.0 made orders.1 (goes _ _ stats.0 made stats.1 refl)))

-- ---- it is well typed

module _ (p : ProgramTree) (laid : ResolvedLayout) (made : IsMadeOf (table p) laid) (r : Program) (h : HasLayout laid r) where
  -- ---- fields

  field_good : (class field : ℕ) (mode : Mode) → IsMeant (table p) laid (m.Attribute class field mode) → typed.field_mode r class field ≡ Some mode
  field_good class field mode i =
      let at : slice_get r.layout.classes class ≡ Some i.0 = ap (λ (l : PlainLayout). slice_get l.classes class) h.layout ∙ i.1 in
      ap (λ (o : Option PlainClass). option_and_then (λ modes. slice_get modes field) (option_map (λ (c : PlainClass). c.fields) o)) at ∙ i.2

  -- ---- keys

  abbrev IsField : ℕ → RankKey → Type 0
  IsField class key = (mode : Mode) × (typed.field_mode r class key.field ≡ Some mode)

  key_good : (class : ℕ) (high : Bool) (name : NameBytes) (key : RankKey) → rank_key (table p) class high name ≡ Some key → IsField class key
  key_good class high name key e =
      let found = got (value_for (table p).attributes name) (λ (a : Attribute). where_holds (a.class == class) (record { field = a.field; high = high })) key e in
      let said : RankKey = record { field = found.0.field; high = high } in
      let own = cond_some (found.0.class == class) said key found.2 in (
        found.0.mode,
        subst (λ (c : ℕ). typed.field_mode r c key.field ≡ Some found.0.mode) (eqb-true found.0.class class own.0)
            (subst (λ (k : RankKey). typed.field_mode r found.0.class k.field ≡ Some found.0.mode) own.1
            (field_good found.0.class found.0.field found.0.mode (field_at p laid made name found.0 found.1))),
      )

  ties_good : (class : ℕ) (name : NameBytes) (keys : List RankKey) → tie_keys (table p) class name ≡ Some keys → typed.AreTypedKeys r class keys
  ties_good class name keys e =
      each_every (tied_by (table p) class) (IsField class) (filter (λ (k : TiedBy). same_name k.class name) (table p).tie_keys) keys e (λ k key g. key_good class k.high k.attribute key g)

  -- ---- disciplines

  ruled_good : (y : SetLayout) (statement : ℕ) (rule : SetRule) (x : Discipline) → ruled (table p) (Some y.member) statement rule ≡ Some x → typed.IsTypedDiscipline r y x
  ruled_good y statement rules.Fifo x e = subst (typed.IsTypedDiscipline r y) (same_Some orders_of.Fifo x e) tt
  ruled_good y statement rules.Lifo x e = subst (typed.IsTypedDiscipline r y) (same_Some orders_of.Lifo x e) tt
  ruled_good y statement rules.Ranked x e =
      let keys = got (rank_keys (table p) y.member statement) (λ ks. Some (orders_of.Ranked ks)) x e in
      let good : typed.AreTypedKeys r y.member keys.0 =
      each_every (ranked_by (table p) y.member) (IsField y.member) (filter (λ (k : RankedBy). k.statement == statement) (table p).rank_keys) keys.0 keys.1 (λ k key g. key_good y.member k.high k.attribute key g) in
      subst (typed.IsTypedDiscipline r y) (same_Some (orders_of.Ranked keys.0) x keys.2) good

  ordered_good : (y : SetLayout) (o : Option DefinedOrder) (x : Discipline) → ordered (table p) (Some y.member) o ≡ Some x → typed.IsTypedDiscipline r y x
  ordered_good y None x e = subst (typed.IsTypedDiscipline r y) (same_Some orders_of.Fifo x e) tt
  ordered_good y (Some o) x e = ruled_good y o.statement o.rule x e

  disciplines_good : AllZip (typed.IsTypedDiscipline r) r.layout.sets r.disciplines
  disciplines_good =
      let good = each_zip set_layout (discipline (table p)) (typed.IsTypedDiscipline r) (table p).sets laid.layout.sets laid.disciplines made.are_sets made.are_orders
      (λ (s : Set) y x is ordered_so. ordered_good y s.order x (subst (λ (o : Option ℕ). ordered (table p) o s.order ≡ Some x) (set_parts s y is).1 ordered_so)) in
      subst (λ (l : List SetLayout). AllZip (typed.IsTypedDiscipline r) l r.disciplines) (sym (ap (λ (l : PlainLayout). l.sets) h.layout))
      (subst (AllZip (typed.IsTypedDiscipline r) laid.layout.sets) (sym h.disciplines) good)

  -- ---- counts and statistics

  count_good : IsValidTable (table p) laid → (name : NameBytes) (meaning : Meaning) → value_for (table p).meanings name ≡ Some meaning → Every (typed.IsTypedCount r) (count_by meaning)
  count_good valid name (m.Count count) is =
      let known = name_known (declarations p) name (m.Count count) is in
      let c = kind_at p laid made known.0 count.class Permanent known.2 known.3 in
      let at : slice_get r.layout.classes count.class ≡ Some c.0 = ap (λ (l : PlainLayout). slice_get l.classes count.class) h.layout ∙ c.1 in
      let whole = (valid.meanings name (m.Count count) is).1 in
      ((ap (option_map (λ (x : PlainClass). x.kind)) at ∙ ap Some c.2, ap (λ (modes : List Mode). slice_get modes count.variable) h.globals ∙ whole), tt)
  count_good valid name _ is = tt

  counts_good : IsValidTable (table p) laid → Every (typed.IsTypedCount r) r.counts
  counts_good valid =
      let ms = (table p).meanings in
      let ds = declarations p in
      subst (Every (typed.IsTypedCount r)) (sym (h.counts ∙ made.are_counts)) (every_piece (typed.IsTypedCount r) count_by (values_of ms) (λ meaning a.
      let e = from_image (λ (x : NameBytes × Meaning). x.1) ms meaning a in
      count_good valid e.0.0 meaning (value_of_entry (given_by (declares (numbered ds)) ds) e.0.0 e.0.1 e.1 ∙ ap Some e.2)))

  subject_good : (meaning : Meaning) (subject : Subject) → IsMeant (table p) laid meaning → is_text (Some meaning) ≡ false → subject_of (Some meaning) ≡ Some subject → typed.IsTypedSubject r subject
  subject_good (m.Variable (Global k) Integer) subject known whole e =
      let plain = subst (Every (λ (c : CountedClass). c.variable ≢ k)) (sym h.counts) known.1 in
      subst (typed.IsTypedSubject r) (same_Some (OfVariable k) subject e) (ap (λ (modes : List Mode). slice_get modes k) h.globals ∙ known.0, plain)
  subject_good (m.Attribute class field Integer) subject known whole e =
      subst (typed.IsTypedSubject r) (same_Some (OfAttribute class field) subject e) (field_good class field Integer known)
  subject_good (m.OfSet MemberCount set) subject known whole e =
      subst (typed.IsTypedSubject r) (same_Some (OfCount set) subject e) (known.laid, ap (λ (l : PlainLayout). slice_get l.sets set) h.layout ∙ known.laid_there)
  subject_good _ subject known whole e = absurd cc

  statistics_good : refusal_of_uses p ≡ None → IsValidTable (table p) laid → Every (λ (s : Statistic). typed.IsTypedSubject r s.subject) r.statistics
  statistics_good used valid =
      let t = table p in
      let of_name : NameBytes → Option Subject = λ n. subject_of (value_for t.meanings n) in
      let good = each_every (resolved_statistic t) (λ (s : Statistic). typed.IsTypedSubject r s.subject) (upto (length t.histories)) laid.statistics made.are_statistics (λ n s kept.
      let named = mapped of_name (slice_get (keys_of t.histories) n) (Some s.subject) (sym (slice_get-map of_name (keys_of t.histories) n) ∙ subject_kept t n s kept) in
      let entry = entry_of_key t.histories n named.0 named.1 in
      let whole = at_place (IsWatched p used) t.histories n (named.0, entry.0) (all_watched p used) entry.1 in
      subject_good whole.0 s.subject (valid.meanings named.0 whole.0 whole.1) whole.3 (sym (ap subject_of whole.1) ∙ named.2)) in
      subst (Every (λ (s : Statistic). typed.IsTypedSubject r s.subject)) (sym h.statistics) good

pub layouts_are_well_typed : LayoutsAreWellTyped
layouts_are_well_typed p x r kept used laid h =
    let made = parts_of (table p) x laid in
    let valid = tables_are_valid p x kept laid in
    record {
      disciplines = disciplines_good p x made r h;
      counts = counts_good p x made r h valid;
      statistics = statistics_good p x made r h used valid;
      ties = λ class name at.
          let keys = ties_there p kept class name at in
          (keys.0, keys.1, ties_good p x made r h class name keys.0 keys.1);
    }
