use Rattle.std.proofs.Common.{◌≡◌, ◌<◌, ◌∙◌, length, swap, subst, sym, ap, arith}
use Rattle.ss_events_entries.proofs.Common.{AreHeld, exchanged, followers, heads, HeadsAndFollowers, length-swap, with_items}
use Rattle.ss_events_entries.proofs.Lists.{written}
use Rattle.ss_events_entries.proofs.HeadsAndFollowers.{long_heads}
use Rattle.ss_events_entries.proofs.Swapped.{length-exchanged, held-swapped, heads-swapped, followers-swapped}
use Rattle.ss_events_entries.proofs.entry.places.Places.swap.Goals as goal
use Rattle.ss_events_entries.proofs.entry.places.Places.swap.Goals.{After-exchange}

count : (c : After-exchange) → length c.args.self.now.heads ≡ c.self.inside.count
count c =
    sym (ap (λ (l : HeadsAndFollowers). length l.heads) c.self.view_is)
    ∙ long_heads c.self.inside.count c.self.inside.slots.items c.self.inside.entries.items c.self.inside.nodes.items (omega (arith, c.self.invariant.few))

a_in : (c : After-exchange) → c.args.a < c.self.inside.count
a_in c = omega (arith, c.requires.a_within, count c)

b_in : (c : After-exchange) → c.args.b < c.self.inside.count
b_in c = omega (arith, c.requires.b_within, count c)

nodes : (c : After-exchange) → (with_items c.self.inside.nodes c.exchange.new.nodes).items ≡ swap c.self.inside.nodes.items c.args.a c.args.b
nodes c =
    written c.self.inside.nodes c.exchange.new.nodes (swap c.self.inside.nodes.items c.args.a c.args.b)
    (c.exchange.ensures.nodes ∙ ap (λ l. swap l c.args.a c.args.b) c.deref_mut.ensures.value)
    (length-swap c.self.inside.nodes.items c.args.a c.args.b ∙ sym c.self.inside.nodes.ok.0)

slots : (c : After-exchange) → (with_items c.self.inside.slots c.exchange.new.slots).items ≡ exchanged c.self.inside.nodes.items c.self.inside.slots.items c.args.a c.args.b
slots c =
    let ss = c.self.inside.nodes.items in
    let xs = c.self.inside.slots.items in
    written c.self.inside.slots c.exchange.new.slots (exchanged ss xs c.args.a c.args.b)
    (c.exchange.ensures.slots ∙ (λ i. exchanged (c.deref_mut.ensures.value i) (c.deref_mut-2.ensures.value i) c.args.a c.args.b))
    (length-exchanged ss xs c.args.a c.args.b ∙ sym c.self.inside.slots.ok.0)

pub invariant_of-self : goal.invariant_of-self
invariant_of-self c =
    let e = (goal.at.invariant_of-self c).After-exchange in
    let s = c.self.inside in
    subst (λ l. AreHeld s.count s.free l s.entries.items (with_items s.nodes c.exchange.new.nodes).items s.directory) (sym (slots e))
    (subst (λ l. AreHeld s.count s.free (exchanged s.nodes.items s.slots.items c.args.a c.args.b) s.entries.items l s.directory) (sym (nodes e))
    (held-swapped s.count s.free s.slots.items s.entries.items s.nodes.items s.directory c.self.invariant c.args.a c.args.b (a_in e) (b_in e)))

pub returns-clause-swapped : goal.returns-clause-swapped
returns-clause-swapped c =
    let e = (goal.at.returns-clause-swapped c).After-exchange in
    let s = c.self.inside in
    let a = c.args.a in
    let b = c.args.b in
    let first : heads s.count (with_items s.slots c.exchange.new.slots).items s.entries.items (with_items s.nodes c.exchange.new.nodes).items ≡ swap c.args.self.now.heads a b =
    (λ i. heads s.count (slots e i) s.entries.items (nodes e i))
    ∙ heads-swapped s.count s.free s.slots.items s.entries.items s.nodes.items s.directory c.self.invariant a b (a_in e) (b_in e)
    ∙ ap (λ (l : HeadsAndFollowers). swap l.heads a b) c.self.view_is in
    let others : followers (with_items s.slots c.exchange.new.slots).items ≡ c.args.self.now.followers =
    ap followers (slots e)
    ∙ followers-swapped s.count s.free s.slots.items s.entries.items s.nodes.items s.directory c.self.invariant a b (a_in e) (b_in e)
    ∙ ap (λ (l : HeadsAndFollowers). l.followers) c.self.view_is in
    λ i. record { heads = first i; followers = others i }
