-- The structs of lent buffers: what a run asks of them, and what a call leaves of the loans themselves.
use Rattle.std.specs.Prelude.{◌≡◌, true, length}
use Rattle.machine.specs.Lent.{Lent, lent}
use Rattle.codeline.specs.declared.code.Code.{Code as LentCode}
use Rattle.layered.specs.inner.Iterations.{RunRoom}
use Rattle.layered.specs.declared.buffers.DecodeBuffers.{DecodeBuffers}
use Rattle.layered.specs.declared.buffers.Scratch.{Scratch}

-- the machine's part of the buffers
abbrev pub held_lent : DecodeBuffers → Lent
held_lent b = lent b.costs.now b.store.now

-- room for a run from its start
abbrev pub RunIn : LentCode → DecodeBuffers → Scratch → Type 0
RunIn K b s = RunRoom K true b.costs.now b.store.now b.symbols.now s.arrived.now s.sent.now

-- each field is the same loan as before, and as long
pub record SameLoans (old new : DecodeBuffers) : Type 0 where
  pub symbols : new.symbols.ghost_name ≡ old.symbols.ghost_name
  pub costs : new.costs.ghost_name ≡ old.costs.ghost_name
  pub store : new.store.ghost_name ≡ old.store.ghost_name
  pub margins : new.margins.ghost_name ≡ old.margins.ghost_name
  pub symbols_length : length new.symbols.now ≡ length old.symbols.now
  pub costs_length : length new.costs.now ≡ length old.costs.now
  pub store_length : length new.store.now ≡ length old.store.now
  pub margins_length : length new.margins.now ≡ length old.margins.now

pub record SameScratch (old new : Scratch) : Type 0 where
  pub arrived : new.arrived.ghost_name ≡ old.arrived.ghost_name
  pub sent : new.sent.ghost_name ≡ old.sent.ghost_name
  pub arrived_length : length new.arrived.now ≡ length old.arrived.now
  pub sent_length : length new.sent.now ≡ length old.sent.now
