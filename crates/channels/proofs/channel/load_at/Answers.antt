-- Refused by 13, or the copied frame is tested in the channel's parts, which are put back.
use mathlib.Core.Path.{refl, sym, ap, ◌∙◌}
use mathlib.Core.List.{[]}
use native.Mathlib.Omega.{arith}
use borrow.Author.Rules.{rules}
use Rattle.refusal.specs.Numbers.{number_of}
use Rattle.refusal.specs.Replies.{fault_in}
use Rattle.machine.specs.Decoding.{lending}
use Rattle.channels.proofs.Layouts.{not_0, load_refused, load_asks, load_puts}
use Rattle.channels.proofs.channel.load_at.Goals as goal

pub returns-in_err-validate_frame : goal.returns-in_err-validate_frame
returns-in_err-validate_frame c = λ store.
    let a = c.args in
    let r = c.in_err-validate_frame.field-0.0 in
    let p = load_refused a.layout.now a.c (lending a.symbols.now a.costs.now store a.margins.now) c.requires.symbols c.requires.costs c.requires.margins a.frames.now c.requires.frames (number_of r) (sym (ap fault_in c.in_err-validate_frame.was) ∙ c.validate_frame.ensures) (not_0 r) in
    search (rules, p)

pub tested-found-requires : goal.tested-found-requires
tested-found-requires c =
    let a = c.args in
    load_asks a.layout.now a.c (lending a.symbols.now a.costs.now [] a.margins.now) c.requires.symbols c.requires.costs c.requires.margins a.frames.now c.requires.frames (fault_in c.validate_frame.result) c.validate_frame.ensures (ap fault_in c.in_ok-validate_frame.was) c.copy.new.costs c.copy.ensures (λ x. omega (arith, c.type_inv.frames x))

pub returns : goal.returns
returns c = λ store.
    let a = c.args in
    load_puts a.layout.now a.c (lending a.symbols.now a.costs.now store a.margins.now) c.requires.symbols c.requires.costs c.requires.margins a.frames.now c.requires.frames (fault_in c.validate_frame.result) c.validate_frame.ensures (ap fault_in c.in_ok-validate_frame.was) c.copy.new.costs c.copy.ensures c.tested-found.result _ _ c.tested-found.ensures.test c.tested-found.ensures.symbols_then c.tested-found.ensures.margins_then _ c.stage_after.ensures _ refl
