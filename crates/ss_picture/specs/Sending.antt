-- What is seen of a sink, and what a call of it sends.
use Rattle.std.specs.Prelude.{◌≡◌, ℕ, zero, suc, ◌+◌, ◌-◌, ◌^◌, ◌<◌, min, List, length, take, option_map, refl}
use Rattle.std.specs.declared.option.Option.{Option}
use Rattle.std.specs.Coded.{Coded, code_by, coded×, coded_ℕ}
use Rattle.std.specs.Io.KnownBytes.{Appends}
use Rattle.ss_base.specs.Failures.{raised}

-- a sink: its writer as it is now, and how many bytes went out to it
pub record SinkState (W : Type 0) : Type 0 where
  pub writer : W
  pub sent : ℕ

-- it is stored as the pair of its fields
abbrev pub sink_code : {W : Type 0} → Coded W → Coded (SinkState W)
sink_code {W} writer_code =
    code_by (W × ℕ) (coded× writer_code coded_ℕ) (λ s. (s.writer, s.sent)) (λ p. record { writer = p.0; sent = p.1 }) (λ _. refl)

-- a count of bytes sent after some more, which stays at the greatest number of 128 bits
abbrev pub sent_after : ℕ → List ℕ → ℕ
sent_after sent bytes = min (sent + length bytes) (2 ^ 128 - 1)

-- from one state of a sink to another these bytes went out: its writer took them, and they were counted
pub record HasSent {W : Type 0} (contents : W → Option (List ℕ)) (old new : SinkState W) (bytes : List ℕ) : Type 0 where
  pub took : Appends (contents old.writer) (contents new.writer) bytes
  pub counted : new.sent ≡ sent_after old.sent bytes

-- from one state of a sink to another the first of these bytes went out, but not all of them
pub record HasSentFirst {W : Type 0} (contents : W → Option (List ℕ)) (old new : SinkState W) (bytes : List ℕ) : Type 0 where
  pub count : ℕ
  pub not_all : count < length bytes
  pub sends : HasSent contents old new (take count bytes)

-- how many writes in a row may take no byte before a sink gives up
abbrev pub stall_limit : ℕ
stall_limit = 1000

-- a count, so many higher where it is known
abbrev pub counted_more : ℕ → Option ℕ → Option ℕ
counted_more more known = option_map (λ count. raised count more) known

-- of the writes in a row that took no byte before a call, those that still count once it has sent so many bytes
abbrev pub idle_before : ℕ → ℕ → ℕ
idle_before zero idle = idle
idle_before (suc sent) idle = 0

-- the first of these bytes went out, and then the writer took no byte in just as many writes in a row as the limit
pub record HasStalled {W : Type 0} (contents : W → Option (List ℕ)) (idle : W → Option ℕ) (old new : SinkState W) (bytes : List ℕ) : Type 0 where
  pub count : ℕ
  pub sends : HasSent contents old new (take count bytes)
  pub in_a_row : idle new.writer ≡ counted_more stall_limit (option_map (idle_before count) (idle old.writer))
