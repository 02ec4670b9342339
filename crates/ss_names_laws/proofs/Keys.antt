-- The keys of ranked sets and of ties are attributes of their classes, so each set has a discipline and each class its keys.
use Rattle.std.proofs.Common.{◌≡◌, ℕ, ◌==◌, nat_eq, Bool, true, false, List, [], Option, Some, None, refl, sym, ap, subst, ◌∙◌}
use Rattle.ss_names_laws.proofs.Common.{Attribute, bytes_decides, declarations, Declared, define_sets, DefinedOrder, Discipline, discipline, disciplines, entry_of_key, eqb-true, firsts_once, keys_of, Line, NameBytes, NamedKey, not-false, ordered, OrderTree, place_from, place_in, PreambleTree, ProgramTree, rank_key, rank_keys, ranked, ranked_by, RankedBy, RankKey, refusal_of_declarations, ruled, same_name, same_Some, Set, SetRule, slice_get, Table, table, tie_keys, tied_by, TiedBy, value_for, where_holds}
use Rattle.std.specs.List.{AllByRecursion as Every, filter}
use Rattle.ss_names.specs.Entries.{class_by, classes, given_by, set_names, set_of, order_by, rank_key_by, tie_key_by}
use Rattle.ss_tables_rules.specs.Rules.{broken_in, is_attribute_of, is_class_of}
use Rattle.ss_base.specs.declared.layout.Discipline.TheVariants as disciplines_of
use Rattle.ss_names_declarations.specs.declared.declaration.Declared.TheVariants as d
use Rattle.ss_names_declarations.specs.declared.declaration.SetRule.TheVariants as rules
use Rattle.ss_tables_rules.specs.declared.error.TableError.TheVariants as errors
use Rattle.ss_tables_rules.specs.Keys.{class_of, is_foreign, is_foreign_to_any, member_named, member_of, misranked_in, misranked_key}
use Rattle.ss_names_laws.proofs.Each.{at_place, each_empty, every_image, every_passed, none_of_any}
use Rattle.ss_names_laws.proofs.NameTable.{value_among}
use Rattle.ss_names_laws.proofs.Items.{Among, at_item}
use Rattle.ss_names_laws.proofs.Kept.{none_misranked}
use Rattle.ss_names_laws.proofs.Owners.{IsOwned, all_owned}
use Rattle.ss_names_laws.proofs.Results.{each_made, goes}
use Rattle.ss_names_laws.proofs.Sources.{IsMade, every_made}
use Rattle.ss_names_laws.proofs.Unbroken.{every_given, holds_unless, none_breaks}

-- ---- one key

-- the name is that of an attribute of this class
abbrev IsKeyOf : Table → ℕ → NameBytes → Type 0
IsKeyOf t class name = (a : Attribute) × (value_for t.attributes name ≡ Some a) × (nat_eq a.class class ≡ true)

key_there : (t : Table) (class : ℕ) (high : Bool) (name : NameBytes) → IsKeyOf t class name → (key : RankKey) × (rank_key t class high name ≡ Some key) × Unit {0}
key_there t class high name h =
    let key : RankKey = record { field = h.0.field; high = high } in (
      key,
      goes (value_for t.attributes name) (λ (a : Attribute). where_holds (a.class == class) (record { field = a.field; high = high })) h.0 key h.1 (ap (λ (b : Bool). where_holds b key) h.2),
      tt,
    )

own_key : (o : Option Attribute) (class : ℕ) → is_foreign (class_of o) (Some class) ≡ false → (a : Attribute) × (o ≡ Some a) × (nat_eq a.class class ≡ true)
own_key None class h = absurd cc
own_key (Some a) class h = (a, refl, not-false (nat_eq a.class class) h)

tied_key : (o : Option Attribute) (class : ℕ) → is_class_of o (Some class) ≡ true → (a : Attribute) × (o ≡ Some a) × (nat_eq a.class class ≡ true)
tied_key None class h = absurd cc
tied_key (Some a) class h = (a, refl, h)

-- ---- where orders and keys come from

-- a DEFINE of the text orders a set
abbrev IsOrdered : ProgramTree → NameBytes × DefinedOrder → Type 0
IsOrdered p e = IsMade p (d.Order e.0 e.1.rule e.1.statement)

order_made : (p : ProgramTree) (w : Declared) → IsMade p w → Every (IsOrdered p) (order_by w)
order_made p (d.Order set rule statement) h = (h, tt)
order_made p _ h = tt

-- a DEFINE of the text has this key
abbrev IsRanked : ProgramTree → RankedBy → Type 0
IsRanked p k = IsMade p (d.RankKey k.attribute k.high k.statement)

rank_key_made : (p : ProgramTree) (w : Declared) → IsMade p w → Every (IsRanked p) (rank_key_by w)
rank_key_made p (d.RankKey attribute high statement) h = (h, tt)
rank_key_made p _ h = tt

-- a key of a DEFINE is foreign to none of its sets
never_foreign : (t : Table) (line : Line) (sets : List NameBytes) (keys : List NamedKey) (key : NamedKey) (set : NameBytes) → misranked_in t (define_sets line sets (ranked keys)) ≡ [] → Among keys key → Among sets set →
    is_foreign (class_of (value_for t.attributes key.name)) (member_named t set) ≡ false
never_foreign t line sets keys key set h a b =
    let class = class_of (value_for t.attributes key.name) in
    let own = at_item (λ (k : NamedKey). misranked_key t line sets k ≡ []) keys key (each_empty (misranked_key t line sets) keys h) a in
    let none = none_breaks (is_foreign_to_any t sets class) (errors.RankKey line) own in
    at_item (λ (s : NameBytes). is_foreign class (member_named t s) ≡ false) sets set (none_of_any (λ (s : NameBytes). is_foreign class (member_named t s)) sets none) b

-- one statement has one list of sets
same_sets : (line other : Line) (sets more : List NameBytes) (order : OrderTree) (keys : List NamedKey) (o : Option PreambleTree) → o ≡ Some (define_sets line sets order) → o ≡ Some (define_sets other more (ranked keys)) → sets ≡ more
same_sets line other sets more order keys o e f =
    let same : define_sets line sets order ≡ define_sets other more (ranked keys) = same_Some (define_sets line sets order) (define_sets other more (ranked keys)) (sym e ∙ f) in
    cc

module _ (p : ProgramTree) (kept : refusal_of_declarations p ≡ None) where
  -- ---- disciplines

  all_ranked : Every (IsRanked p) (table p).rank_keys
  all_ranked = every_made p (IsRanked p) rank_key_by (rank_key_made p)

  -- a key of the DEFINE of a set is an attribute of the class of its members
  key_owned : (name : NameBytes) (set : IsOwned p name) (o : DefinedOrder) → IsOrdered p (name, o) → (k : RankedBy) → IsRanked p k → nat_eq k.statement o.statement ≡ true → IsKeyOf (table p) set.member k.attribute
  key_owned name set o made k key is =
      let t = table p in
      let at : slice_get p.preamble o.statement ≡ Some (define_sets key.0 key.1 (ranked key.2)) = ap (slice_get p.preamble) (sym (eqb-true k.statement o.statement is)) ∙ key.4 in
      let sets : made.1 ≡ key.1 = same_sets made.0 key.0 made.1 key.1 made.2 key.2 (slice_get p.preamble o.statement) made.3 at in
      let none = at_place (λ (s : PreambleTree). misranked_in t s ≡ []) p.preamble k.statement (define_sets key.0 key.1 (ranked key.2)) (each_empty (misranked_in t) p.preamble (none_misranked p kept)) key.4 in
      let free = never_foreign t key.0 key.1 key.2 key.3 name none key.5 (subst (λ (l : List NameBytes). Among l name) sets made.4) in
      let member : member_named t name ≡ Some set.member = ap member_of set.known ∙ set.filled in
      own_key (value_for t.attributes k.attribute) set.member
      (ap (λ (n : NameBytes). is_foreign (class_of (value_for t.attributes n)) (Some set.member)) (sym key.6) ∙ ap (is_foreign (class_of (value_for t.attributes key.3.name))) (sym member) ∙ free)

  keys_there : (name : NameBytes) (set : IsOwned p name) (o : DefinedOrder) → IsOrdered p (name, o) → (keys : List RankKey) × (rank_keys (table p) set.member o.statement ≡ Some keys)
  keys_there name set o made =
      let t = table p in
      let of_order : RankedBy → Bool = λ k. k.statement == o.statement in
      let HasKey = λ (k : RankedBy). (key : RankKey) × (ranked_by t set.member k ≡ Some key) × Unit {0} in
      let all = every_passed (IsRanked p) HasKey of_order (λ k key is. key_there t set.member k.high k.attribute (key_owned name set o made k key is)) t.rank_keys all_ranked in
      let found = each_made (ranked_by t set.member) (λ (key : RankKey). Unit {0}) (filter of_order t.rank_keys) all in
      (found.0, found.1)

  by_rule : (name : NameBytes) (set : IsOwned p name) (o : DefinedOrder) → IsOrdered p (name, o) → (rule : SetRule) → (x : Discipline) × (ruled (table p) (set_of (classes (declarations p)) (declarations p) name).member o.statement rule ≡ Some x)
  by_rule name set o made rules.Fifo = (disciplines_of.Fifo, refl)
  by_rule name set o made rules.Lifo = (disciplines_of.Lifo, refl)
  by_rule name set o made rules.Ranked =
      let keys = keys_there name set o made in
      (disciplines_of.Ranked keys.0, goes _ _ set.member (disciplines_of.Ranked keys.0) set.filled (goes _ _ keys.0 (disciplines_of.Ranked keys.0) keys.1 refl))

  discipline_there : (name : NameBytes) → IsOwned p name → (x : Discipline) × (discipline (table p) (set_of (classes (declarations p)) (declarations p) name) ≡ Some x) × Unit {0}
  discipline_there name set = by (value_for (given_by order_by (declarations p)) name) refl
    where
      by : (o : Option DefinedOrder) → value_for (given_by order_by (declarations p)) name ≡ o → (x : Discipline) × (ordered (table p) (set_of (classes (declarations p)) (declarations p) name).member o ≡ Some x) × Unit {0}
      by None is = (disciplines_of.Fifo, refl, tt)
      by (Some o) is =
          let orders = every_made p (IsOrdered p) order_by (order_made p) in
          let made = at_item (IsOrdered p) (given_by order_by (declarations p)) (name, o) orders (value_among (given_by order_by (declarations p)) name o is) in
          let found = by_rule name set o made o.rule in
          (found.0, found.1, tt)

  pub disciplines_there : (xs : List Discipline) × (disciplines (table p) ≡ Some xs)
  disciplines_there =
      let ds = declarations p in
      let HasDiscipline = λ (s : Set). (x : Discipline) × (discipline (table p) s ≡ Some x) × Unit {0} in
      let all = every_image HasDiscipline (set_of (classes ds) ds) (set_names ds) (λ name a. discipline_there name (at_item (IsOwned p) (set_names ds) name (all_owned p kept) a)) in
      let found = each_made (discipline (table p)) (λ (x : Discipline). Unit {0}) (table p).sets all in
      (found.0, found.1)

  -- ---- ties

  tie_says : (line : Line) (w : Declared) → broken_in (table p) line w ≡ None → Every (λ (k : TiedBy). is_attribute_of (table p) k.class k.attribute ≡ true) (tie_key_by w)
  tie_says line (d.TieKey class attribute high) h = (holds_unless (is_attribute_of (table p) class attribute) (errors.TieKey line) h, tt)
  tie_says line _ h = tt

  pub ties_there : (class : ℕ) (name : NameBytes) → slice_get (keys_of (table p).classes) class ≡ Some name → (keys : List RankKey) × (tie_keys (table p) class name ≡ Some keys)
  ties_there class name at =
      let t = table p in
      let entry = entry_of_key t.classes class name at in
      let place : place_in t.classes name ≡ Some class = place_from t.classes class name entry.0 (firsts_once (given_by class_by (declarations p))) entry.1 in
      let of_class : TiedBy → Bool = λ k. same_name k.class name in
      let HasKey = λ (k : TiedBy). (key : RankKey) × (tied_by t class k ≡ Some key) × Unit {0} in
      let IsOfClass = λ (k : TiedBy). is_attribute_of t k.class k.attribute ≡ true in
      let all = every_passed IsOfClass HasKey of_class (λ k says is.
      let known : is_class_of (value_for t.attributes k.attribute) (Some class) ≡ true =
      ap (is_class_of (value_for t.attributes k.attribute)) (sym (ap (place_in t.classes) ((bytes_decides k.class name).0 is) ∙ place)) ∙ says in
      key_there t class k.high k.attribute (tied_key (value_for t.attributes k.attribute) class known)) t.tie_keys (every_given p kept IsOfClass tie_key_by tie_says) in
      let found = each_made (tied_by t class) (λ (key : RankKey). Unit {0}) (filter of_class t.tie_keys) all in
      (found.0, found.1)
