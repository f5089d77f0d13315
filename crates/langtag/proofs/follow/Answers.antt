-- `langtag::follow` is `follow`: each place asks its own function.
use mathlib.Core.Logic.{inl, inr}
use Rattle.langtag.proofs.follow.Goals as goal

pub returns-in-Start : goal.returns-in-Start
returns-in-Start c = rw c.in-Start.is c.languages.ensures

pub returns-in-Language3 : goal.returns-in-Language3
returns-in-Language3 c = rw c.in-Language3.is c.extlangs.ensures

pub returns-in-Language2 : goal.returns-in-Language2
returns-in-Language2 c = rw c.in-Language2.is c.extlangs-in-Language2.ensures

pub returns-in-Language1 : goal.returns-in-Language1
returns-in-Language1 c = rw c.in-Language1.is c.extlangs-in-Language1.ensures

pub returns-in-Language : goal.returns-in-Language
returns-in-Language c = rw c.in-Language.is c.scripts.ensures

pub returns-in-Script : goal.returns-in-Script
returns-in-Script c = rw c.in-Script.is c.regions.ensures

pub returns-in-Region : goal.returns-in-Region
returns-in-Region c = rw c.in-Region.is c.variants.ensures

pub returns-in-Singleton : goal.returns-in-Singleton
returns-in-Singleton c = rw c.in-Singleton.is c.extended.ensures

pub returns-in-Extension : goal.returns-in-Extension
returns-in-Extension c = rw c.in-Extension.is (rw c.extensions.ensures at c.extended-in-Extension.ensures)

pub returns-in-X : goal.returns-in-X
returns-in-X c = elim c.in-X.is [ inl e ↦ rw e c.private.ensures | inr e ↦ rw e c.private.ensures ]
