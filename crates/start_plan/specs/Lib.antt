-- What a plan is made of.
pub mod Plan
-- What it does is what the production says.
pub mod Says
pub mod Does
-- What was judged of a start tag that is carried out.
pub mod Goes
