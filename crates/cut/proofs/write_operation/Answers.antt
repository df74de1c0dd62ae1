use Rattle.cut.proofs.write_operation.Goals as goal

pub returns-in-Lower : goal.returns-in-Lower
returns-in-Lower c = rw (c.in-Remap.is, c.in-Lower.is) c.write_parts-in-Lower.ensures

pub returns-in-Upper : goal.returns-in-Upper
returns-in-Upper c = rw (c.in-Remap.is, c.in-Upper.is) c.write_parts-in-Upper.ensures

pub returns-in-Both : goal.returns-in-Both
returns-in-Both c = rw (c.in-Remap.is, c.in-Both.is) c.write_parts-in-Both.ensures

pub returns-in-Unmap : goal.returns-in-Unmap
returns-in-Unmap c = rw c.in-Unmap.is c.write_parts-in-Unmap.ensures
