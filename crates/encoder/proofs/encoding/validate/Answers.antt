-- The tests in the definition's order.
use Rattle.encoder.proofs.Refusals.{fault_form, fault_length, fault_elements, fault_room, fault_none}
use Rattle.encoder.proofs.encoding.validate.Goals as goal

pub returns-then-not-formed : goal.returns-then-not-formed
returns-then-not-formed c =
    fault_form c.args.code.now c.args.message.now c.args.room c.formed.result c.formed.ensures c.if-not-formed.true

pub returns-then-message-from : goal.returns-then-message-from
returns-then-message-from c =
    fault_length c.args.code.now c.args.message.now c.args.room c.formed.result c.formed.ensures c.if-not-formed.false c.from-n.result c.from.result c.from-n.ensures c.from.ensures c.if-message-from.true

pub returns-then-not-elements : goal.returns-then-not-elements
returns-then-not-elements c =
    fault_elements c.args.code.now c.args.message.now c.args.room c.formed.result c.formed.ensures c.if-not-formed.false c.from-n.result c.from.result c.from-n.ensures c.from.ensures c.if-message-from.false c.size.result c.size.ensures.0 c.elements.result c.elements.ensures c.if-not-elements.true

pub returns-then-room-n : goal.returns-then-room-n
returns-then-room-n c =
    fault_room c.args.code.now c.args.message.now c.args.room c.formed.result c.formed.ensures c.if-not-formed.false c.from-n.result c.from.result c.from-n.ensures c.from.ensures c.if-message-from.false c.size.result c.size.ensures.0 c.elements.result c.elements.ensures c.if-not-elements.false c.if-room-n.true

pub returns : goal.returns
returns c =
    fault_none c.args.code.now c.args.message.now c.args.room c.formed.result c.formed.ensures c.if-not-formed.false c.from-n.result c.from.result c.from-n.ensures c.from.ensures c.if-message-from.false c.size.result c.size.ensures.0 c.elements.result c.elements.ensures c.if-not-elements.false c.if-room-n.false
