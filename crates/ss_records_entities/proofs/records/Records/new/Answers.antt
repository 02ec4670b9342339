use Rattle.std.proofs.Common.{◌≡◌, ◌*◌, [], length, None, sym, ap, subst, ◌∙◌, arith}
use Rattle.ss_records_entities.proofs.Common.{blanks, block_words, IsSmall, IsSystemLaid, Layout, length-blanks, replicate, set_places, System, word_blank, words_new}
use Rattle.std.proofs.lemmas.Result.{IfOk-at_ok, MatchResult-at_ok}
use Rattle.ss_world.specs.State.{first_state}
use Rattle.ss_records_entities.proofs.Living.{kept_first, none_made}
use Rattle.ss_records_entities.proofs.records.Records.new.Goals as goal

pub lay_system-requires-clause-room : goal.lay_system-requires-clause-room
lay_system-requires-clause-room c =
    let x = c.in_ok-held.held in let n = c.block_words-words.result in let a = c.in_ok-tables.ensures in let b = c.in_ok-tables-2.ensures in let d = c.in_ok-held.ensures in let one = IfOk-at_ok _ d.1 c.with_one.ensures in
    let plan : x.0.0.0 ≡ c.in_ok-layout.layout = (λ i. (d.0 i).0.0) ∙ (λ i. (b.0 i).0) ∙ a.0 in
    rw (one.0, words_new [] x.1.1.at (blanks n)) (length-blanks n ∙ c.block_words-words.ensures.size ∙ ap (λ (l : Layout). block_words l System) (sym plan))

pub lay_system-requires-clause-blank : goal.lay_system-requires-clause-blank
lay_system-requires-clause-blank c =
    let x = c.in_ok-held.held in let n = c.block_words-words.result in let one = IfOk-at_ok _ (c.in_ok-held.ensures).1 c.with_one.ensures in
    λ k. rw (one.0, words_new [] x.1.1.at (blanks n)) (word_blank n k)

pub lay_system-requires-clause-touches : goal.lay_system-requires-clause-touches
lay_system-requires-clause-touches c = (IfOk-at_ok _ (c.in_ok-held.ensures).1 c.with_one.ensures).1

pub returns : goal.returns
returns c =
    let a = c.in_ok-tables.ensures in let b = c.in_ok-tables-2.ensures in let d = c.in_ok-held.ensures in let one = IfOk-at_ok _ d.1 c.with_one.ensures in
    record {
      made =
          let x = c.in_ok-held.held in let n = c.block_words-words.result in let l = x.0.0.0 in let plan : l ≡ c.in_ok-layout.layout = (λ i. (d.0 i).0.0) ∙ (λ i. (b.0 i).0) ∙ a.0 in
          let e : l ≡ c.args.layout = plan ∙ c.in_ok-layout.ensures.0 in let small : IsSmall l = subst IsSmall (sym e) c.in_ok-layout.ensures.1 in
          let laid = subst (λ bs. IsSystemLaid l bs c.lay_system.new.blocks.cells x.1.1.at) one.0 c.lay_system.ensures.laid in
          let size : n ≡ block_words l System = c.block_words-words.ensures.size ∙ ap (λ (z : Layout). block_words z System) (sym plan) in
          let count : c.classes.result ≡ length l.classes = c.classes.ensures ∙ ap (λ (z : Layout). length z.classes) (sym plan) in
          let rows : x.0.0.1.items ≡ replicate (length l.classes) None = (λ i. (d.0 i).0.1.items) ∙ (λ i. (b.0 i).1.items) ∙ MatchResult-at_ok _ _ _ a.1 c.not_made-permanents.ensures ∙ ap (λ k. replicate k None) count in
          let numbers : x.0.1.places ≡ [] = (λ i. (d.0 i).1.places) ∙ MatchResult-at_ok _ _ _ b.1 c.new-2.ensures in
          rw (numbers, c.new-3.ensures, rows) (
            kept_first l c.lay_system.new.blocks.cells x.1.1 n small size laid,
            ap (λ rs. record { layout = l; records = []; permanents = rs; lists = [] }) (none_made l c.lay_system.new.blocks.cells l.classes) ∙ ap first_state e,
          );
      touches =
          let l = c.in_ok-held.held.0.0.0 in let plan : l ≡ c.in_ok-layout.layout = (λ i. (d.0 i).0.0) ∙ (λ i. (b.0 i).0) ∙ a.0 in let e : l ≡ c.args.layout = plan ∙ c.in_ok-layout.ensures.0 in
          (c.lay_system.ensures.links ∙ ap (λ (z : Layout). 3 * set_places z System) e, omega (arith, c.lay_system.ensures.touches, one.2));
    }
