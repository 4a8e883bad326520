use Rattle.std.proofs.Common.{append_assoc}
use Rattle.class_desc.proofs.known_class.put_fields.Goals as goal

pub returns-in_ok-put_plain-in-ObjId : goal.returns-in_ok-put_plain-in-ObjId
returns-in_ok-put_plain-in-ObjId c = rw c.in-ObjId.is (rw (c.in_ok-put_plain-in-ObjId.ensures, append_assoc) at c.put_object.ensures)

pub returns-in_ok-put_field-in-Vmid : goal.returns-in_ok-put_field-in-Vmid
returns-in_ok-put_field-in-Vmid c = rw c.in-Vmid.is (rw (c.in_ok-put_field-in-Vmid.ensures, append_assoc) at c.put_object-in-Vmid.ensures)

pub returns-in_ok-put_plain-in-Lease : goal.returns-in_ok-put_plain-in-Lease
returns-in_ok-put_plain-in-Lease c = rw c.in-Lease.is (rw (c.in_ok-put_plain-in-Lease.ensures, append_assoc) at c.put_object-in-Lease.ensures)

pub returns-in-Proxy : goal.returns-in-Proxy
returns-in-Proxy c = rw c.in-Proxy.is c.put_object-in-Proxy.ensures
