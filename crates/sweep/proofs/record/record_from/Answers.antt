-- Shifts, then groups, are the record: the rows joined from both sweeps are the sent costs.
use mathlib.Core.Path.{◌≡◌, ap, ap₂, ◌∙◌, sym}
use mathlib.Core.List.{List, ◌++◌}
use Prim.Native.Nat.{ℕ, ◌+◌, ◌-◌, ◌*◌, ◌<◌}
use native.Mathlib.Omega.{arith}
use lib.ListN.{length, take, get_or}
use lib.Seq.{take_at}
use lib.Pow.{pow_pos}
use native.Mathlib.Nat.{mul_comm}
use Rattle.trellis.specs.Rules.{power_of, size_of, most_of, greatest_of}
use Rattle.rules.specs.declared.Rule.{Rule}
use Rattle.checknode.specs.inner.Asks.{shifts_of}
use Rattle.trellis.proofs.Rules.{most-few}
use Rattle.checknode.proofs.Resting.{shifts-length}
use Rattle.sweep.proofs.Sending.{rows_joinable, rows_are, sent-fits, record_is, two_parts, rest-length}
use Rattle.sweep.proofs.record.record_from.Goals as goal

pub sent_all-requires : goal.sent_all-requires
sent_all-requires c =
    let f : ℕ = c.args.check.now.first in
    let ws : List ℕ = c.args.check.now.weights.now in
    let cs : List ℕ = c.args.check.now.costs.now in
    let bytes : (i : ℕ) → get_or cs i 0 < 256 = c.args.check.now.bytes in
    let most-is : c.from-k.result ≡ most_of f = c.from-k.ensures ∙ ap (λ (r : Rule). r.k) c.rule_of-rule.ensures in
    let greatest-is : c.rule_of-rule.result.greatest ≡ greatest_of f = ap (λ (r : Rule). r.greatest) c.rule_of-rule.ensures in
    let shifts-long : length (shifts_of (power_of f) ws cs) ≡ length ws = shifts-length f ws cs c.args.check.now.ready in
    let shifts-first : (s : List ℕ) → (r : List ℕ) → s ≡ shifts_of (power_of f) ws cs → take (length ws) (s ++ r) ≡ shifts_of (power_of f) ws cs = λ s r e. take_at s r (length ws) (ap length e ∙ shifts-long) ∙ e in
    rows_joinable f ws cs c.args.check.now.ready bytes c.args.before.now c.args.after.now c.requires.swept greatest-is c.size-q.ensures.0 most-is (shifts-first _ _ c.shifts.ensures) c.args.sent.now c.requires.sent_len

pub groups-requires : goal.groups-requires
groups-requires c =
    let f : ℕ = c.args.check.now.first in
    let ws : List ℕ = c.args.check.now.weights.now in
    let cs : List ℕ = c.args.check.now.costs.now in
    let bytes : (i : ℕ) → get_or cs i 0 < 256 = c.args.check.now.bytes in
    let most-is : c.from-k.result ≡ most_of f = c.from-k.ensures ∙ ap (λ (r : Rule). r.k) c.rule_of-rule.ensures in
    let greatest-is : c.rule_of-rule.result.greatest ≡ greatest_of f = ap (λ (r : Rule). r.greatest) c.rule_of-rule.ensures in
    let shifts-long : length (shifts_of (power_of f) ws cs) ≡ length ws = shifts-length f ws cs c.args.check.now.ready in
    let shifts-first : (s : List ℕ) → (r : List ℕ) → s ≡ shifts_of (power_of f) ws cs → take (length ws) (s ++ r) ≡ shifts_of (power_of f) ws cs = λ s r e. take_at s r (length ws) (ap length e ∙ shifts-long) ∙ e in
    let q = c.size-q.result in
    let k = c.from-k.result in
    let eq = c.size-q.ensures.0 in
    let ek = most-is in
    let n = rest-length (shifts_of (power_of f) ws cs) c.args.out.now (length ws) _ ((1 + 2 * most_of f) * (size_of f - 1)) c.shifts.ensures shifts-long (omega (arith, c.shifts.auto)) c.requires.out_len in
    let m : (1 + 2 * most_of f) * (size_of f - 1) ≡ (q - 1) * (1 + 2 * k) = ap₂ (λ k q. (1 + 2 * k) * (q - 1)) (sym ek) (sym eq) ∙ mul_comm (1 + 2 * k) (q - 1) in
    record {
      sent_len = (omega (arith, c.sent_all.auto, c.requires.sent_len, ap (λ y. length ws * y) eq), (omega (arith, c.args.check.now.ready.few), (omega (arith, ek, most-few f), omega (arith, eq, pow_pos (power_of f)))));
      pairs_room = sent-fits f ws cs c.args.check.now.ready bytes eq ek _ (rows_are f ws cs c.args.check.now.ready bytes c.args.before.now c.args.after.now c.requires.swept greatest-is c.size-q.ensures.0 most-is (shifts-first _ _ c.shifts.ensures) c.sent_all.ensures);
      out_len = n ∙ m;
    }

pub returns : goal.returns
returns c =
    let f : ℕ = c.args.check.now.first in
    let ws : List ℕ = c.args.check.now.weights.now in
    let cs : List ℕ = c.args.check.now.costs.now in
    let bytes : (i : ℕ) → get_or cs i 0 < 256 = c.args.check.now.bytes in
    let most-is : c.from-k.result ≡ most_of f = c.from-k.ensures ∙ ap (λ (r : Rule). r.k) c.rule_of-rule.ensures in
    let greatest-is : c.rule_of-rule.result.greatest ≡ greatest_of f = ap (λ (r : Rule). r.greatest) c.rule_of-rule.ensures in
    let shifts-long : length (shifts_of (power_of f) ws cs) ≡ length ws = shifts-length f ws cs c.args.check.now.ready in
    let shifts-first : (s : List ℕ) → (r : List ℕ) → s ≡ shifts_of (power_of f) ws cs → take (length ws) (s ++ r) ≡ shifts_of (power_of f) ws cs = λ s r e. take_at s r (length ws) (ap length e ∙ shifts-long) ∙ e in
    two_parts (shifts_of (power_of f) ws cs) _ c.args.out.now (length ws) _ c.shifts.ensures c.groups.ensures shifts-long (omega (arith, c.shifts.auto)) (omega (arith, c.requires.out_len))
    ∙ record_is f ws cs c.args.check.now.ready bytes c.size-q.ensures.0 most-is _ (rows_are f ws cs c.args.check.now.ready bytes c.args.before.now c.args.after.now c.requires.swept greatest-is c.size-q.ensures.0 most-is (shifts-first _ _ c.shifts.ensures) c.sent_all.ensures)
