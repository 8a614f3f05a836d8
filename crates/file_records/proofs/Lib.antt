pub mod KindTags
pub mod Tags
mod Behind
mod AllSaid
pub mod Below
pub mod FieldRows
pub mod Found
mod Fronts
mod Naming
pub mod OfNode
pub mod Once
pub mod Partners
pub mod SaidMembers
pub mod SaidSides
mod Taking
mod Loops
mod FamilyMembers
mod FamilyNodes
mod FamilySides
mod FamilyWhole
mod DraftFamilies
mod DraftNodes
