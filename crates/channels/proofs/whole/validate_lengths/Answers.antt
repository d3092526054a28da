-- At most eight times one channel's lengths.
use native.Mathlib.Nat.{mul-le-mul}
use native.Mathlib.Omega.{arith}
use Prim.Native.Nat.{◌*◌, ◌≤◌}
use Rattle.channels.proofs.Given.{store_low}
use Rattle.channels.proofs.whole.validate_lengths.Goals as goal

pub overflow_mul-needed-3 : goal.overflow_mul-needed-3
overflow_mul-needed-3 c =
    let h : c.args.count * c.args.layout.now.store ≤ 8 * 65535 = mul-le-mul c.requires (store_low c.args.layout.now) in
    omega arith
