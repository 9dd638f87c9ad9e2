-- The text of the report, what its contracts cite, and examples.
pub mod Report
pub mod ReportExamples
pub mod Inner
