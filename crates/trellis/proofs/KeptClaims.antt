-- For accepted checks: k + 1 entries of each row suffice; k entries do not, by evaluation.
use mathlib.Core.Path.{◌≡◌, refl, sym, ap, ◌∙◌}
use mathlib.Core.List.{List}
use Prim.Native.Nat.{ℕ, suc, ◌+◌, ◌*◌, ◌<◌}
use lib.ListN.{length, get_or}
use Rattle.trellis.specs.Field.{xor, product}
use Rattle.trellis.specs.Check.{Column, column, weigh, sent, least_cost, choices, shift, decided, all_sent}
use Rattle.trellis.specs.Record.{record_of}
use Rattle.trellis.specs.Rules.{rule_for, power_of, size_of, most_of, columns_of}
use Rattle.trellis.specs.Ready.{Ready}
use Rattle.trellis.specs.Rows.{symbol_at, entry, cheapest, kept, sent_from}
use Rattle.trellis.specs.Kept.{kept_sent, KeptEntriesSuffice, TwoEntriesFallShort, KEntriesFallShort, LowerColumnFirst}
use Rattle.trellis.proofs.Records.{size-xor, shift_small, sent-at, record_shift}
use Rattle.trellis.proofs.Ready.{length-columns, column-at, ready_proper}
use Rattle.trellis.proofs.Messages.{sent-place}
use Rattle.trellis.proofs.Selected.{kept-sent}

pub kept_entries_suffice : KeptEntriesSuffice
unfolding kept_sent
kept_entries_suffice f ws cs D n x l h =
    let cols : List Column = columns_of (size_of f) ws cs in
    let P = ready_proper f ws cs D in
    let j : n < length cols = rw (length-columns (size_of f) ws cs) l in
    let w : (rule_for f).times (get_or ws n 0) x ≡ weigh (rule_for f) (column cols n) x = ap (λ (c : Column). (rule_for f).times c.weight x) (sym (column-at (size_of f) ws cs n l)) in
    let a : ℕ = xor (weigh (rule_for f) (column cols n) x) (shift (rule_for f) cols n) in
    let small : a < size_of f = size-xor (rule_for f) cols P _ _ ((P.sound n j).closed x h) (shift_small (rule_for f) cols P n j) in
    ap (λ y. sent_from (rule_for f) (kept (rule_for f) (suc (most_of f)) cols) n (xor y (shift (rule_for f) cols n))) w
    ∙ kept-sent (rule_for f) cols P a n j small
    ∙ sym (sent-at (rule_for f) cols P n x)

pub two_entries_fall_short : TwoEntriesFallShort
unfolding kept_sent sent_from kept cheapest entry symbol_at sent least_cost choices shift decided columns_of xor
two_entries_fall_short = record { full = refl; fewer = refl }

pub k_entries_fall_short : KEntriesFallShort
unfolding kept_sent sent_from kept cheapest entry symbol_at sent least_cost choices shift decided columns_of xor
k_entries_fall_short = (record { full = refl; fewer = refl }, (record { full = refl; fewer = refl }, record { full = refl; fewer = refl }))

pub lower_column-first : LowerColumnFirst
unfolding cheapest entry symbol_at columns_of xor
lower_column-first = refl

-- all sent costs of an accepted check, each from the kept entries and the record's shift
pub ready-kept : (f : ℕ) (ws cs : List ℕ) → Ready f ws cs → (n x : ℕ) → n < length ws → x < size_of f
    → get_or (all_sent (rule_for f) (columns_of (size_of f) ws cs)) (n * size_of f + x) 0
    ≡ sent_from (rule_for f) (kept (rule_for f) (suc (most_of f)) (columns_of (size_of f) ws cs)) n
    (xor (product (power_of f) (get_or ws n 0) x) (get_or (record_of (rule_for f) (columns_of (size_of f) ws cs)) n 0))
unfolding kept_sent
ready-kept f ws cs D n x l h =
    let cols : List Column = columns_of (size_of f) ws cs in
    let P = ready_proper f ws cs D in
    let j : n < length cols = rw (length-columns (size_of f) ws cs) l in
    sent-place (rule_for f) cols n x j h
    ∙ sym (kept_entries_suffice f ws cs D n x l h)
    ∙ ap (λ s. sent_from (rule_for f) (kept (rule_for f) (suc (most_of f)) cols) n (xor (product (power_of f) (get_or ws n 0) x) s)) (sym (record_shift (rule_for f) cols P n j))
