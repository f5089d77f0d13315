-- `start_attributes::roles::judge` meets its contract, role by role.
use Rattle.spec.specs.StartTag.{judge}
use Rattle.start_attributes.proofs.roles.judge.Goals as goal

pub returns-in-Nothing : goal.returns-in-Nothing
unfolding judge
returns-in-Nothing c = rw c.in-Nothing.is

pub returns-in-XmlLang : goal.returns-in-XmlLang
returns-in-XmlLang c = rw c.in-XmlLang.is c.judge_language.ensures

pub returns-in-XmlBase : goal.returns-in-XmlBase
unfolding judge
returns-in-XmlBase c = rw (c.in-XmlBase.is, ← c.is_iri.ensures) c.require.ensures

pub returns-in-Id : goal.returns-in-Id
unfolding judge
returns-in-Id c = rw (c.in-Id.is, ← c.is_nc_name.ensures) c.require-in-Id.ensures

pub returns-in-BagId : goal.returns-in-BagId
unfolding judge
returns-in-BagId c = rw (c.in-BagId.is, ← c.is_nc_name-in-BagId.ensures) c.require-in-BagId.ensures

pub returns-in-NodeId : goal.returns-in-NodeId
returns-in-NodeId c = rw c.in-NodeId.is c.judge_label.ensures

pub returns-in-About : goal.returns-in-About
unfolding judge
returns-in-About c = rw c.in-About.is

pub returns-in-Resource : goal.returns-in-Resource
unfolding judge
returns-in-Resource c = rw c.in-Resource.is

pub returns-in-Datatype : goal.returns-in-Datatype
unfolding judge
returns-in-Datatype c = rw c.in-Datatype.is

pub returns-in-ParseType : goal.returns-in-ParseType
unfolding judge
returns-in-ParseType c = rw c.in-ParseType.is

pub returns-in-Type : goal.returns-in-Type
unfolding judge
returns-in-Type c = rw c.in-Type.is

pub returns-in-Forbidden : goal.returns-in-Forbidden
unfolding judge
returns-in-Forbidden c = rw c.in-Forbidden.is

pub returns-in-Property : goal.returns-in-Property
unfolding judge
returns-in-Property c = rw c.in-Property.is
