-- `start_attributes::role_at` meets its contract, by the class.
use Rattle.spec.specs.Namespaces.{xml_name}
use Rattle.spec.specs.Bytes.{ascii}
use Rattle.start_attributes.specs.Attributes.{no_role, role_unprefixed, role_xml, role_own, role_held, text-unprefixed, text_xml_lem, text_own, text-held}
use Rattle.start_attributes.proofs.role_at.Goals as goal

pub returns-in-Declaration : goal.returns-in-Declaration
returns-in-Declaration c = no_role _ _ _ _ c.in-Declaration.is

pub returns-in-Unprefixed : goal.returns-in-Unprefixed
returns-in-Unprefixed c = role_unprefixed _ _ _ _ c.name_of-name.ensures (text-unprefixed _ _ _ _ c.name_of-name.ensures c.in-Unprefixed.is) c.role_of.ensures c.in-Unprefixed.is

pub returns-in-Xml : goal.returns-in-Xml
unfolding xml_name ascii
returns-in-Xml c = role_xml _ _ _ _ c.name_of-name.ensures (text_xml_lem _ _ _ _ c.local_of-local.ensures c.in-Xml.is) c.role_of-in-Xml.ensures c.in-Xml.is

pub returns-in-Own : goal.returns-in-Own
returns-in-Own c = role_own _ _ _ _ c.name_of-name.ensures (text_own _ _ _ _ c.local_of-local.ensures c.in-Own.is c.piece.ensures) c.role_of-in-Own.ensures c.in-Own.is

pub returns-in-Held : goal.returns-in-Held
returns-in-Held c = role_held _ _ _ _ c.name_of-name.ensures (text-held _ _ _ _ c.local_of-local.ensures c.in-Held.is c.piece-in-Held.ensures) c.role_of-in-Held.ensures c.in-Held.is
