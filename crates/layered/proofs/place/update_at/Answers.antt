-- The check's parts of the tables, of the store and of the lists to work in, and what its update leaves (Places).
use mathlib.Core.Path.{refl}
use Prim.Native.Nat.{◌*◌}
use native.Mathlib.Omega.{arith}
use lib.ListN.{take, length-take}
use Rattle.machine.proofs.Places.{before_more}
use Rattle.layered.proofs.Places.{check_there, next-byte, update_asks, update-done, places_inside, byte_fits}
use Rattle.layered.proofs.place.update_at.Goals as goal

pub bounds-code-m : goal.bounds-code-m
bounds-code-m c =
    omega (arith, check_there c.args.code.now c.args.start c.args.here.check c.args.costs.now c.args.store.now c.requires.updatable)

pub overflow_mul-n : goal.overflow_mul-n
overflow_mul-n c =
    omega (arith, places_inside c.args.code.now c.args.start c.args.here.check c.args.costs.now c.args.store.now c.requires.updatable c.args.here.edge c.args.here.byte c.from-d.result c.size-q.result c.groups-groups.result c.requires.stands.edge_is c.requires.stands.byte_is c.from-d.ensures c.size-q.ensures.0 c.groups-groups.ensures)

pub overflow_add-e : goal.overflow_add-e
overflow_add-e c =
    omega (arith, places_inside c.args.code.now c.args.start c.args.here.check c.args.costs.now c.args.store.now c.requires.updatable c.args.here.edge c.args.here.byte c.from-d.result c.size-q.result c.groups-groups.result c.requires.stands.edge_is c.requires.stands.byte_is c.from-d.ensures c.size-q.ensures.0 c.groups-groups.ensures)

pub overflow_add-f : goal.overflow_add-f
overflow_add-f c =
    omega (arith, byte_fits c.args.code.now c.args.start c.args.here.check c.args.costs.now c.args.store.now c.requires.updatable c.args.here.edge c.args.here.byte c.from-d.result c.size-q.result c.groups-groups.result c.requires.stands.edge_is c.requires.stands.byte_is c.from-d.ensures c.size-q.ensures.0 c.groups-groups.ensures)

pub overflow_add-f-2 : goal.overflow_add-f-2
overflow_add-f-2 c =
    omega (arith, byte_fits c.args.code.now c.args.start c.args.here.check c.args.costs.now c.args.store.now c.requires.updatable c.args.here.edge c.args.here.byte c.from-d.result c.size-q.result c.groups-groups.result c.requires.stands.edge_is c.requires.stands.byte_is c.from-d.ensures c.size-q.ensures.0 c.groups-groups.ensures)

pub offset_bounds-code-at : goal.offset_bounds-code-at
offset_bounds-code-at c =
    omega (arith, places_inside c.args.code.now c.args.start c.args.here.check c.args.costs.now c.args.store.now c.requires.updatable c.args.here.edge c.args.here.byte c.from-d.result c.size-q.result c.groups-groups.result c.requires.stands.edge_is c.requires.stands.byte_is c.from-d.ensures c.size-q.ensures.0 c.groups-groups.ensures)

pub slice_bounds-update-end : goal.slice_bounds-update-end
slice_bounds-update-end c =
    omega (arith, places_inside c.args.code.now c.args.start c.args.here.check c.args.costs.now c.args.store.now c.requires.updatable c.args.here.edge c.args.here.byte c.from-d.result c.size-q.result c.groups-groups.result c.requires.stands.edge_is c.requires.stands.byte_is c.from-d.ensures c.size-q.ensures.0 c.groups-groups.ensures)

pub slice_bounds-update-end-2 : goal.slice_bounds-update-end-2
slice_bounds-update-end-2 c =
    omega (arith, places_inside c.args.code.now c.args.start c.args.here.check c.args.costs.now c.args.store.now c.requires.updatable c.args.here.edge c.args.here.byte c.from-d.result c.size-q.result c.groups-groups.result c.requires.stands.edge_is c.requires.stands.byte_is c.from-d.ensures c.size-q.ensures.0 c.groups-groups.ensures)

pub slice_bounds-update-end-3 : goal.slice_bounds-update-end-3
slice_bounds-update-end-3 c =
    omega (arith, places_inside c.args.code.now c.args.start c.args.here.check c.args.costs.now c.args.store.now c.requires.updatable c.args.here.edge c.args.here.byte c.from-d.result c.size-q.result c.groups-groups.result c.requires.stands.edge_is c.requires.stands.byte_is c.from-d.ensures c.size-q.ensures.0 c.groups-groups.ensures)

pub slice_bounds-update-end-4 : goal.slice_bounds-update-end-4
slice_bounds-update-end-4 c =
    omega (arith, places_inside c.args.code.now c.args.start c.args.here.check c.args.costs.now c.args.store.now c.requires.updatable c.args.here.edge c.args.here.byte c.from-d.result c.size-q.result c.groups-groups.result c.requires.stands.edge_is c.requires.stands.byte_is c.from-d.ensures c.size-q.ensures.0 c.groups-groups.ensures, c.requires.arrived)

pub slice_bounds-update-end-5 : goal.slice_bounds-update-end-5
slice_bounds-update-end-5 c =
    simp length-take (omega (arith, places_inside c.args.code.now c.args.start c.args.here.check c.args.costs.now c.args.store.now c.requires.updatable c.args.here.edge c.args.here.byte c.from-d.result c.size-q.result c.groups-groups.result c.requires.stands.edge_is c.requires.stands.byte_is c.from-d.ensures c.size-q.ensures.0 c.groups-groups.ensures, c.requires.arrived))

pub slice_bounds-update-end-6 : goal.slice_bounds-update-end-6
slice_bounds-update-end-6 c =
    omega (arith, places_inside c.args.code.now c.args.start c.args.here.check c.args.costs.now c.args.store.now c.requires.updatable c.args.here.edge c.args.here.byte c.from-d.result c.size-q.result c.groups-groups.result c.requires.stands.edge_is c.requires.stands.byte_is c.from-d.ensures c.size-q.ensures.0 c.groups-groups.ensures, c.requires.sent)

pub slice_bounds-update-end-7 : goal.slice_bounds-update-end-7
slice_bounds-update-end-7 c =
    simp length-take (omega (arith, places_inside c.args.code.now c.args.start c.args.here.check c.args.costs.now c.args.store.now c.requires.updatable c.args.here.edge c.args.here.byte c.from-d.result c.size-q.result c.groups-groups.result c.requires.stands.edge_is c.requires.stands.byte_is c.from-d.ensures c.size-q.ensures.0 c.groups-groups.ensures, c.requires.sent))

pub update-requires : goal.update-requires
update-requires c =
    update_asks c.args.code.now c.args.start c.args.here.check c.args.costs.now c.args.store.now c.requires.updatable c.args.here.edge c.args.here.byte c.from-d.result c.size-q.result c.groups-groups.result c.requires.stands.edge_is c.requires.stands.byte_is c.from-d.ensures c.size-q.ensures.0 c.groups-groups.ensures (take (c.from-d.result * c.size-q.result) c.args.room.now.arrived.now) (take (c.from-d.result * c.size-q.result) c.args.room.now.sent.now) (simp length-take (omega (arith, places_inside c.args.code.now c.args.start c.args.here.check c.args.costs.now c.args.store.now c.requires.updatable c.args.here.edge c.args.here.byte c.from-d.result c.size-q.result c.groups-groups.result c.requires.stands.edge_is c.requires.stands.byte_is c.from-d.ensures c.size-q.ensures.0 c.groups-groups.ensures, c.requires.arrived))) (simp length-take (omega (arith, places_inside c.args.code.now c.args.start c.args.here.check c.args.costs.now c.args.store.now c.requires.updatable c.args.here.edge c.args.here.byte c.from-d.result c.size-q.result c.groups-groups.result c.requires.stands.edge_is c.requires.stands.byte_is c.from-d.ensures c.size-q.ensures.0 c.groups-groups.ensures, c.requires.sent)))

pub overflow_add-result : goal.overflow_add-result
overflow_add-result c =
    omega (arith, check_there c.args.code.now c.args.start c.args.here.check c.args.costs.now c.args.store.now c.requires.updatable)

pub returns : goal.returns
returns c =
    record {
      scratch = record { arrived = refl; sent = refl; arrived_length = omega arith; sent_length = omega arith };
      buffers = update-done c.args.code.now c.args.start c.args.here.check c.args.costs.now c.args.store.now c.requires.updatable c.args.here.edge c.args.here.byte c.from-d.result c.size-q.result c.groups-groups.result c.requires.stands.edge_is c.requires.stands.byte_is c.from-d.ensures c.size-q.ensures.0 c.groups-groups.ensures _ _ c.update.ensures.costs_then c.update.ensures.bytes_then;
      next = record { check_is = refl; edge_is = before_more c.args.code.now.degrees.now c.args.here.check c.args.here.edge c.from-d.result c.requires.stands.edge_is c.from-d.ensures; byte_is = next-byte c.args.code.now c.args.start c.args.here.check c.args.costs.now c.args.store.now c.requires.updatable c.args.here.edge c.args.here.byte c.from-d.result c.size-q.result c.groups-groups.result c.requires.stands.edge_is c.requires.stands.byte_is c.from-d.ensures c.size-q.ensures.0 c.groups-groups.ensures };
    }
